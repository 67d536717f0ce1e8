-- What stands behind the reason of a retry.
use Rattle.std.specs.Prelude.{ℕ, List, Result, Ok}
use Rattle.script_rules.specs.Script.{number_word, ◌>>=◌}
use Rattle.directory_rules.specs.declared.reply.Why.{Why}
use Rattle.process_rules.specs.ReadLetter as rule
use Rattle.directory_rules.specs.declared.reply.Why.TheVariants as why
use Rattle.process_lines.specs.declared.replies.ReasonName.{ReasonName}
use Rattle.process_lines.specs.declared.replies.ReasonName.TheVariants as name

abbrev pub reason_of : ReasonName → rule.Reason
reason_of name.View = rule.with_number why.View
reason_of name.Unsettled = rule.alone why.Unsettled
reason_of name.OldNumber = rule.with_number why.OldNumber
reason_of name.NotOwner = rule.alone why.NotOwner

-- a reason with the number that the word tells
abbrev pub numbered : (ℕ → Why) → List ℕ → Result Why ℕ
numbered of word = do
  number ← number_word word
  Ok (of number)
