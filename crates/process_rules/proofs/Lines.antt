-- What a line makes of the output.
use Rattle.std.proofs.Common.{◌≡◌, ℕ, Bool, true, List, [], ◌∷◌, ◌++◌, Option, Result, Err, ap, ◌∙◌, append-nil}
use Rattle.texts.specs.Printed.{text_of_lines}
use Rattle.silo_rules.specs.SiloValue.{SiloValue}
use Rattle.process_rules.specs.ReadLine.{Asked}
use Rattle.process_rules.specs.Answer.{Answered}
use Rattle.process_rules.specs.Output.{answered_to, fault_line, said, unless_ended, after_line, written_on}

pub fault_goes_on : (token : Option (List ℕ)) (line next : List ℕ) (lines : List (List ℕ)) (s : SiloValue) (fault : ℕ)
    → said line s ≡ Err fault
    → written_on token (line ∷ next ∷ lines) s ≡ text_of_lines (fault_line fault ∷ []) ++ written_on token (next ∷ lines) s
unfolding written_on
fault_goes_on token line next lines s fault is =
    ap (λ (read : Result (Option Asked) ℕ). after_line (answered_to token read s) (written_on token (next ∷ lines))) is

end_is_last : (it : Answered) (next : SiloValue → List ℕ) → it.ends ≡ true → after_line it next ≡ text_of_lines it.lines
end_is_last it next ends =
    ap (λ (b : Bool). text_of_lines it.lines ++ unless_ended b next it.silo) ends ∙ append-nil (text_of_lines it.lines)

pub end_is_final : (token : Option (List ℕ)) (line next : List ℕ) (lines : List (List ℕ)) (s : SiloValue)
    → (answered_to token (said line s) s).ends ≡ true
    → written_on token (line ∷ next ∷ lines) s ≡ text_of_lines (answered_to token (said line s) s).lines
unfolding written_on
end_is_final token line next lines s ends = end_is_last (answered_to token (said line s) s) (written_on token (next ∷ lines)) ends
