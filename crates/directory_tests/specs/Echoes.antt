-- What the player of the tests makes of lines: each is printed as it stands.
use Rattle.std.specs.Prelude.{◌≡◌, ℕ, ◌+◌, ◌<◌, List, [], ◌∷◌, ◌++◌, length, nat_lt, if◌then◌else◌, refl}
use Rattle.std.proofs.lemmas.Bool.{lt-ltb}
use Rattle.texts.specs.Printed.{Output}
use Rattle.texts.specs.Words.{line_feed}
use Rattle.script_rules.specs.Script.{longest_line}
use Rattle.line_loop.specs.Scripts.{behind, faulty_output, no_output}

-- the lines as they stand, up to one that is too long
unfoldable pub echoed : (number : ℕ) → (lines : List (List ℕ)) → Output
echoed number [] = no_output
echoed number (line ∷ lines) =
    if nat_lt longest_line (length line) then faulty_output number 924 else behind (line ++ line_feed ∷ []) (echoed (number + 1) lines)

pub long_lines_fault : (number : ℕ) (line : List ℕ) (lines : List (List ℕ)) → longest_line < length line → echoed number (line ∷ lines) ≡ faulty_output number 924
unfolding echoed
long_lines_fault number line lines long = rw (lt-ltb longest_line (length line) long) refl
