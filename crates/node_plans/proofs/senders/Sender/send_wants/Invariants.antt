use Rattle.std.proofs.Common.{◌≡◌, ◌++◌}
use Rattle.node_plans.specs.Sender.{sending, wants_of}
use Rattle.node_plans.proofs.senders.Sender.send_wants.Given as goal

-- what was sent, and what the pieces still to come want, is what all want
abbrev pub invariant-loop-piece : goal.invariant-loop-piece
invariant-loop-piece l =
    l.letters.items ++ wants_of (sending l.self) l.piece-iterator ≡ l.fn.letters.items ++ wants_of (sending l.self) l.fn.pieces
