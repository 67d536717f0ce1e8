-- How what the code answers is what the rule answers.
use Rattle.std.specs.Prelude.{◌≡◌, ℕ, Bool, List, ◌++◌}
use Rattle.texts.specs.Printed.{text_of_lines}
use Rattle.silo_rules.specs.SiloValue.{SiloValue}
use Rattle.process_rules.specs.Answer.{Answered}

-- the rule's answer leaves this silo, its lines stand behind what was written before, and it ends the process or doesn't
pub record IsAnswered (rule : Answered) (before : List ℕ) (silo : SiloValue) (after : List ℕ) (ends : Bool) : Type 0 where
  pub leaves : silo ≡ rule.silo
  pub prints : after ≡ before ++ text_of_lines rule.lines
  pub ending : ends ≡ rule.ends
