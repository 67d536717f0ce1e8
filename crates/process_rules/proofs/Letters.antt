-- A letter's line is answered as that letter.
use Rattle.std.proofs.Common.{arith, ◌≡◌, ℕ, ◌<◌, ◌≤◌, ◌-◌, Bool, true, false, List, ◌∷◌, Option, Some, None, Result, Ok, refl, ap, ◌∙◌, length, take}
use Rattle.std.specs.Prelude.{◌==◌, cond, nat_lt, slice_index}
use Rattle.std.specs.List.{list_all}
use Rattle.std.specs.Io.BufRead.{ends_with_byte, strip_last}
use Rattle.std.proofs.lemmas.Bool.{eqb-true, ltb-true}
use Rattle.std.proofs.lemmas.List.Folds.{list_all_at}
use Rattle.texts.proofs.Decided.{both}
use Rattle.texts.specs.Words.{carriage_return}
use Rattle.ring_range.specs.Range.{IsRange}
use Rattle.directory_rules.specs.State.{Letter}
use Rattle.silo_rules.specs.SiloValue.{SiloValue}
use Rattle.script_rules.specs.Script.{is_text}
use Rattle.process_rules.specs.LetterText.{letter_line}
use Rattle.process_rules.specs.ReadLine.{Asked, Receive, longest_line, read_silo_line}
use Rattle.process_rules.specs.Told.{IsNumber, IsTold}
use Rattle.process_rules.proofs.LineWords.{line_is_text}
use Rattle.process_rules.proofs.LinesAgain.{line_again}
use Rattle.process_rules.specs.Answer.{Answered, answered, answered_as}
use Rattle.process_rules.specs.Output.{answered_to, said, after_line, written_on}

-- a line of text has no carriage return to drop
last_by : (line : List ℕ) → list_all is_text line ≡ true → (ends : Bool) → ends_with_byte carriage_return line ≡ ends
    → cond ends (take (length line - 1) line) line ≡ line
last_by line text false is = refl
last_by line text true is =
    let parts = both (nat_lt 0 (length line)) (slice_index line (length line - 1) == carriage_return) is in
    let some = ltb-true 0 (length line) parts.0 in
    let below : length line - 1 < length line = omega (arith, some) in
    let control : is_text (slice_index line (length line - 1)) ≡ false = ap is_text (eqb-true (slice_index line (length line - 1)) carriage_return parts.1) in
    let other : list_all is_text line ≡ false = list_all_at is_text line (length line - 1) 0 below control in
    cc (text, other)

stripped : (line : List ℕ) → list_all is_text line ≡ true → strip_last carriage_return line ≡ line
stripped line text = last_by line text (ends_with_byte carriage_return line) refl

letter_said : (letter : Letter) (s : SiloValue) → IsTold s.node.settings.hashing letter → length (letter_line letter) ≤ longest_line
    → said (letter_line letter) s ≡ Ok (Some (Receive letter))
letter_said letter s is fits =
    ap (read_silo_line s.node.settings.hashing) (stripped (letter_line letter)
    (line_is_text IsNumber IsRange s.node.settings.hashing letter is))
    ∙ line_again s.node.settings.hashing letter is fits

received_as : (token : Option (List ℕ)) (letter : Letter) (s : SiloValue)
    → answered_as token (Receive letter) s ≡ answered (Receive letter) s
unfolding answered_as
received_as None letter s = refl
received_as (Some token) letter s = refl

pub letter_received : (token : Option (List ℕ)) (letter : Letter) (next : List ℕ) (lines : List (List ℕ)) (s : SiloValue)
    → IsTold s.node.settings.hashing letter → length (letter_line letter) ≤ longest_line
    → written_on token (letter_line letter ∷ next ∷ lines) s ≡ after_line (answered (Receive letter) s) (written_on token (next ∷ lines))
unfolding written_on
letter_received token letter next lines s is fits =
    ap (λ (read : Result (Option Asked) ℕ). after_line (answered_to token read s) (written_on token (next ∷ lines)))
    (letter_said letter s is fits)
    ∙ ap (λ (it : Answered). after_line it (written_on token (next ∷ lines))) (received_as token letter s)
