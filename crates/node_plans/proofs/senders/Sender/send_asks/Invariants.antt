use Rattle.std.proofs.Common.{◌≡◌, ◌++◌}
use Rattle.node_plans.specs.Sender.{asks_of, sending}
use Rattle.node_plans.proofs.senders.Sender.send_asks.Given as goal

-- what was asked, and what the pieces still to come ask, is what all ask
abbrev pub invariant-loop-piece : goal.invariant-loop-piece
invariant-loop-piece l =
    l.letters.items ++ asks_of (sending l.self) l.piece-iterator ≡ l.fn.letters.items ++ asks_of (sending l.self) l.pieces.entries
