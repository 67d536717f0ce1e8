use Rattle.std.proofs.Common.{arith, lit<}
use Rattle.std.proofs.lemmas.Bool.{false≢true}
use Rattle.process_answers.proofs.settings.process_settings.Goals as goal

-- so many silos may be known
pub unreachable-requires : goal.unreachable-requires
unreachable-requires c = false≢true (c.in-None.ensures.in_range.1 (omega arith, lit< tt))
