use Rattle.progress_rules.proofs.Limits.{numbers_never_refuse}
use Rattle.progress_rules.proofs.NumbersUsed.{directories_have_numbers}
use Rattle.progress_rules.proofs.laws.numbers_never_refuse.Goals as goal

pub returns : goal.returns
returns c = record { never = numbers_never_refuse; directories = directories_have_numbers }
