-- Lines answered one by one.
use Rattle.std.specs.Prelude.{◌≡◌, ℕ, Bool, true, false, if◌then◌else◌, is_some, List, [], ◌∷◌, ◌++◌, Option, None, Result}
use Rattle.texts.specs.Printed.{text_of_lines}
use Rattle.silo_rules.specs.SiloValue.{SiloValue}
use Rattle.process_rules.specs.ReadLine.{Asked, unended_fault}
use Rattle.process_rules.specs.Answer.{Answered}
use Rattle.process_rules.specs.Output.{after_last, answered_to, said, written_on}

-- a line, which a line feed ended, is answered: by the token of the process, if it was started with one, and the silo before it; the silo
-- after it, what is written, and whether the process ends
pub record AnswersLine (token : Option (List ℕ)) (old : SiloValue) (line before : List ℕ) (new : SiloValue) (after : List ℕ) (ends : Bool) : Type 0 where
  pub silo : new ≡ (answered_to token (said line old) old).silo
  pub text : after ≡ before ++ text_of_lines (answered_to token (said line old) old).lines
  pub stops : ends ≡ (answered_to token (said line old) old).ends

-- playing a line answers it; of one that no line feed ended the fault is told, and nothing changes
abbrev pub PlaysLine : {S : Type 0} → (token : Option (List ℕ)) → (old : SiloValue) → (line : List ℕ) → (ended : Bool) → (text : List ℕ) → (stop : Option S) → (new : SiloValue) → Type 0
PlaysLine token old line true text stop new = AnswersLine token old line [] new text (is_some stop)
PlaysLine token old line false text stop new = (new ≡ old) × (text ≡ after_last (unended_fault line)) × (stop ≡ None)

-- so a process does that keeps its token
abbrev pub PlaysOne : {S : Type 0} → (token : Option (List ℕ)) → (old : SiloValue) → (line : List ℕ) → (ended : Bool) → (text : List ℕ) → (stop : Option S) → (kept : Option (List ℕ)) → (new : SiloValue) → Type 0
PlaysOne token old line ended text stop kept new = PlaysLine token old line ended text stop new × (kept ≡ token)

-- the process ends there, or by what comes next
abbrev pub ends_or : Answered → (SiloValue → Bool) → Bool
ends_or it next = if it.ends then true else next it.silo

-- whether the process ends by one of the lines, each of which a line feed ended
unfoldable pub ends_on : (token : Option (List ℕ)) → List (List ℕ) → SiloValue → Bool
ends_on token [] s = false
ends_on token (line ∷ lines) s = ends_or (answered_to token (said line s) s) (ends_on token lines)

-- the text is all that is answered to lines, by which the process doesn't end
abbrev pub PrintsLines : (token : Option (List ℕ)) → SiloValue → (lines : List (List ℕ)) → (text : List ℕ) → Type 0
PrintsLines token silo lines text = (ends_on token lines silo ≡ false) × (text ≡ written_on token (lines ++ [] ∷ []) silo)

-- the text is what some process answers to what some line says
abbrev pub PrintsAnswer : (text : List ℕ) → Type 0
PrintsAnswer text = (token : Option (List ℕ)) × (read : Result (Option Asked) ℕ) × (silo : SiloValue) × (text ≡ text_of_lines (answered_to token read silo).lines)

-- how many bytes may begin a line that isn't known to be too long: those of the longest, and a carriage return
abbrev pub most_begun : ℕ
most_begun = 16777217

-- how many bytes a process may read
abbrev pub most_read : ℕ
most_read = 9223372036854775807
