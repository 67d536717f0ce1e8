use Rattle.std.proofs.Common.{◌≡◌}
use Rattle.letter_mail.specs.Mail.{least_fresh, lesser}
use Rattle.letter_mail.proofs.Least.{least_among}
use Rattle.letter_mail.proofs.mail.Mail.least_fresh.Given as goal

-- the least so far, or to one of the silos that are left
abbrev pub invariant-loop-silo : goal.invariant-loop-silo
invariant-loop-silo g l = lesser l.least (least_among l.silo-iterator l.self) ≡ least_fresh l.silos.entries l.self
