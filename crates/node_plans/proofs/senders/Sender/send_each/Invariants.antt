use Rattle.std.proofs.Common.{◌≡◌, ◌++◌, take}
use Rattle.std.specs.Prelude.{map}
use Rattle.directory_rules.specs.State.{Query_letter}
use Rattle.directory_rules.specs.Recovery.{told_by}
use Rattle.directory_rules.specs.Sent.{letter_to}
use Rattle.node_plans.specs.Sender.{sending}
use Rattle.node_plans.proofs.senders.Sender.send_each.Given as goal

-- so many queries were sent
abbrev pub invariant-loop-silo : goal.invariant-loop-silo
invariant-loop-silo l =
    l.letters.items ≡ l.fn.letters.items ++ map (λ silo. letter_to silo (sending l.self) (Query_letter l.range (told_by silo l.recovery)))
    (take l.silo-index l.silo-items)
