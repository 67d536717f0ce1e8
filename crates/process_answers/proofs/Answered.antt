-- Lines answered by a silo.
use Rattle.std.proofs.Common.{◌≡◌, ◌∙◌, ◌++◌, ℕ, Bool, false, List, [], ◌∷◌, Option, None, Some, Result, Ok, Err, ap, append-nil, sym}
use Rattle.std.specs.Prelude.{IfOk, OnOk}
use Rattle.std.specs.Io.BufRead.{strip_last}
use Rattle.texts.specs.Printed.{text_of_lines}
use Rattle.texts.specs.Words.{carriage_return}
use Rattle.hash_ring.specs.declared.hashing.Hashing.{Hashing}
use Rattle.silo_rules.specs.SiloValue.{SiloValue}
use Rattle.process_rules.specs.ReadLine.{Asked, read_silo_line}
use Rattle.process_rules.specs.Answer.{answered_as}
use Rattle.process_rules.specs.Output.{answered_to, fault_line, said}
use Rattle.process_answers.specs.LineAnswers.{AnswersLine}

-- what the line says, by equal hashing and an equal line
pub said_so : (s : SiloValue) (line stripped : List ℕ) (hashing : Hashing) (read : Result (Option Asked) ℕ)
    → hashing ≡ s.node.settings.hashing
    → stripped ≡ strip_last carriage_return line → read_silo_line hashing stripped ≡ read → said line s ≡ read
said_so s line stripped hashing read same is reads =
    ap (λ (h : Hashing). read_silo_line h (strip_last carriage_return line)) (sym same)
    ∙ (ap (λ (l : List ℕ). read_silo_line hashing l) (sym is) ∙ reads)

-- it says nothing
pub passed_over : (token : Option (List ℕ)) (s : SiloValue) (line text : List ℕ) → said line s ≡ Ok None
    → AnswersLine token s line text s text false
passed_over token s line text is = record {
  silo = ap (λ (r : Result (Option Asked) ℕ). (answered_to token r s).silo) (sym is);
  text = sym (append-nil text) ∙ ap (λ (r : Result (Option Asked) ℕ). text ++ text_of_lines (answered_to token r s).lines) (sym is);
  stops = ap (λ (r : Result (Option Asked) ℕ). (answered_to token r s).ends) (sym is);
}

-- its fault is told
pub fault_told : (token : Option (List ℕ)) (s : SiloValue) (line before after : List ℕ) (fault number : ℕ) → said line s ≡ Err fault
    → number ≡ fault → after ≡ before ++ text_of_lines (fault_line number ∷ [])
    → AnswersLine token s line before s after false
fault_told token s line before after fault number is same written = record {
  silo = ap (λ (r : Result (Option Asked) ℕ). (answered_to token r s).silo) (sym is);
  text = written ∙ (ap (λ (n : ℕ). before ++ text_of_lines (fault_line n ∷ [])) same
      ∙ ap (λ (r : Result (Option Asked) ℕ). before ++ text_of_lines (answered_to token r s).lines) (sym is));
  stops = ap (λ (r : Result (Option Asked) ℕ). (answered_to token r s).ends) (sym is);
}

-- what it asks for is answered
pub asked_answered : {E : Type 0} (token : Option (List ℕ)) (s t : SiloValue) (line before after : List ℕ) (asked : Asked)
    (result : Result Bool E) → said line s ≡ Ok (Some asked)
    → OnOk result (t ≡ (answered_as token asked s).silo) → OnOk result (after ≡ before ++ text_of_lines (answered_as token asked s).lines)
    → IfOk result (λ ends. ends ≡ (answered_as token asked s).ends)
    → IfOk result (λ ends. AnswersLine token s line before t after ends)
asked_answered token s t line before after asked (Err error) is silo lines ends = tt
asked_answered token s t line before after asked (Ok end) is silo lines ends = record {
  silo = silo ∙ ap (λ (r : Result (Option Asked) ℕ). (answered_to token r s).silo) (sym is);
  text = lines ∙ ap (λ (r : Result (Option Asked) ℕ). before ++ text_of_lines (answered_to token r s).lines) (sym is);
  stops = ends ∙ ap (λ (r : Result (Option Asked) ℕ). (answered_to token r s).ends) (sym is);
}
