-- The line of a letter says that letter.
use Rattle.std.proofs.Common.{◌≡◌, ℕ, ◌≤◌, false, Some, Result, Ok, ap, ◌∙◌, length}
use Rattle.std.specs.Prelude.{nat_lt}
use Rattle.std.proofs.Common.{arith}
use Rattle.std.proofs.lemmas.Bool.Decides.{nat_tests}
use Rattle.ring_range.specs.Range.{IsRange}
use Rattle.hash_ring.specs.declared.hashing.Hashing.{Hashing}
use Rattle.directory_rules.specs.State.{Letter}
use Rattle.script_rules.specs.Script.{◌>>=◌}
use Rattle.process_rules.specs.LetterText.{letter_line}
use Rattle.process_rules.specs.ReadLine.{Receive, longest_line, asked_of_words, read_silo_line}
use Rattle.process_rules.specs.Told.{IsNumber, IsTold}
use Rattle.process_rules.proofs.LettersAgain.{again}
use Rattle.process_rules.proofs.LineWords.{line_is_text, line_words}

pub line_again : (hashing : Hashing) (letter : Letter) → IsTold hashing letter → length (letter_line letter) ≤ longest_line
    → read_silo_line hashing (letter_line letter) ≡ Ok (Some (Receive letter))
unfolding read_silo_line
line_again hashing letter is fits =
    let short : nat_lt longest_line (length (letter_line letter)) ≡ false = grind (arith, nat_tests) in
    rw (short, line_is_text IsNumber IsRange hashing letter is)
    (ap (asked_of_words hashing) (line_words IsNumber IsRange hashing letter is)
    ∙ ap (λ (read : Result Letter ℕ). read >>= (λ letter. Ok (Receive letter)) >>= (λ asked. Ok (Some asked))) (again hashing letter is))
