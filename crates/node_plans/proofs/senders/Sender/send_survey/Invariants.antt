use Rattle.std.proofs.Common.{◌≡◌, ◌++◌, take}
use Rattle.std.specs.Prelude.{map}
use Rattle.directory_rules.specs.State.{Survey_letter}
use Rattle.directory_rules.specs.Sent.{letter_to}
use Rattle.node_plans.specs.Sender.{sending}
use Rattle.node_plans.proofs.senders.Sender.send_survey.Given as goal

-- so many surveys were sent
abbrev pub invariant-loop-silo : goal.invariant-loop-silo
invariant-loop-silo l =
    l.letters.items ≡ l.fn.letters.items ++ map (λ silo. letter_to silo (sending l.self) (Survey_letter l.ranges))
    (take l.silo-index l.silo-items)
