-- What an answer says of the verdict, and its line.
use Rattle.std.proofs.Common.{◌≡◌, ◌≢◌, ◌↔◌, ℕ, List, [], ◌∷◌, ◌++◌, codes, Option, Some, None, Result, Ok, Err, IfOk, refl, sym, ◌∙◌, ap, subst, option_map, rules}
use Rattle.std.specs.Fmt.{digits}
use Rattle.texts.specs.Printed.{text_of_lines}
use Rattle.dump_rules.specs.Verdict as rule
use Rattle.dump_rules.specs.Verdict.{DumpFault, fault_number, verdict_line}
use Rattle.rebuild_checker.specs.Faults.{Answers, IsLineOf, fault_of, fault_text}
use Rattle.rebuild_checker.specs.declared.check_fault.CheckFault.{CheckFault}
use Rattle.rebuild_checker.specs.declared.check_fault.CheckFault.TheVariants.{RingDiffers, WrongRange, TwoFirm, MissingFirm, Stranger, OutOfMemory}

-- the line of an answer is that of the verdict
abbrev line_of : Option DumpFault → List ℕ
line_of verdict = text_of_lines (verdict_line verdict ∷ [])

pub answer_line : (answer : Result Unit CheckFault) (verdict : Option DumpFault) (text : List ℕ) → Answers answer verdict
    → IsLineOf answer text
    → text ≡ text_of_lines (verdict_line verdict ∷ [])
answer_line (Ok done) verdict text is line = line ∙ ap line_of (sym is)
answer_line (Err OutOfMemory) verdict text is line = absurd line
answer_line (Err (RingDiffers silo)) verdict text is line = line ∙ ap line_of (sym is)
answer_line (Err (WrongRange silo)) verdict text is line = line ∙ ap line_of (sym is)
answer_line (Err (TwoFirm grain)) verdict text is line = line ∙ ap line_of (sym is)
answer_line (Err (MissingFirm grain)) verdict text is line = line ∙ ap line_of (sym is)
answer_line (Err (Stranger grain)) verdict text is line = line ∙ ap line_of (sym is)

-- the line of a fault that has a number
pub fault_line : (fault : CheckFault) (number : Option ℕ) (n : ℕ) (text : List ℕ) → number ≡ option_map fault_number (fault_of fault)
    → number ≡ Some n
    → text ≡ codes "check " ++ (fault_text fault ++ codes "\n") → (let answer : Result Unit CheckFault = Err fault in IsLineOf answer text)
unfolding digits
fault_line (RingDiffers silo) number n text its is printed = printed ∙ search rules
fault_line (WrongRange silo) number n text its is printed = printed ∙ search rules
fault_line (TwoFirm grain) number n text its is printed = printed ∙ search rules
fault_line (MissingFirm grain) number n text its is printed = printed ∙ search rules
fault_line (Stranger grain) number n text its is printed = printed ∙ search rules
fault_line OutOfMemory number n text its is printed = absurd (cc)

-- so is what is written of it
pub line_written : {S E : Type 0} (bytes : S → List ℕ) (result : Result S E) (answer : Result Unit CheckFault) (fault : CheckFault)
    (number : Option ℕ) (n : ℕ)
    → answer ≡ Err fault → number ≡ option_map fault_number (fault_of fault) → number ≡ Some n
    → IfOk result (λ text. bytes text ≡ codes "check " ++ (fault_text fault ++ codes "\n"))
    → IfOk result (λ text. IsLineOf answer (bytes text))
line_written bytes (Ok text) answer fault number n fails its is printed =
    subst (λ a. IsLineOf a (bytes text)) (sym fails) (fault_line fault number n (bytes text) its is printed)
line_written bytes (Err error) answer fault number n fails its is printed = tt

-- yes is said exactly where there is no fault
faulty : {R : Type 0} (verdict : Option DumpFault) (named : DumpFault) (fault : CheckFault) → verdict ≡ Some named → (verdict ≡ None) ↔ R
    → (let answer : Result Unit CheckFault = Err fault in answer ≡ Ok tt) ↔ R
faulty verdict named fault is right = (λ yes. absurd (cc), λ r. absurd (let none = right.1 r in cc))

pub yes_if_right : {R : Type 0} (answer : Result Unit CheckFault) (verdict : Option DumpFault) → Answers answer verdict
    → (verdict ≡ None) ↔ R → answer ≢ Err OutOfMemory
    → (answer ≡ Ok tt) ↔ R
yes_if_right (Ok tt) verdict is right other = (λ yes. right.0 is, λ r. refl)
yes_if_right (Err OutOfMemory) verdict is right other = absurd (other refl)
yes_if_right (Err (RingDiffers silo)) verdict is right other = faulty verdict (rule.RingDiffers silo) (RingDiffers silo) is right
yes_if_right (Err (WrongRange silo)) verdict is right other = faulty verdict (rule.WrongRange silo) (WrongRange silo) is right
yes_if_right (Err (TwoFirm grain)) verdict is right other = faulty verdict (rule.TwoFirm grain) (TwoFirm grain) is right
yes_if_right (Err (MissingFirm grain)) verdict is right other = faulty verdict (rule.MissingFirm grain) (MissingFirm grain) is right
yes_if_right (Err (Stranger grain)) verdict is right other = faulty verdict (rule.Stranger grain) (Stranger grain) is right
