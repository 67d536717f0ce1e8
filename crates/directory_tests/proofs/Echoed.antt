-- Lines echoed by the player of the tests.
use Rattle.std.proofs.Common.{◌≡◌, ◌∙◌, ℕ, ◌<◌, ◌≤◌, ◌++◌, List, [], ◌∷◌, None, Some, append-nil, ap, length, refl, sym}
use Rattle.std.proofs.lemmas.Bool.{le-ltb}
use Rattle.texts.specs.Printed.{text_of_lines}
use Rattle.texts.specs.Words.{line_feed}
use Rattle.script_rules.specs.Lines.{fault_line}
use Rattle.script_rules.specs.Script.{longest_line}
use Rattle.script_lines.specs.declared.error.ScriptFault.TheVariants.{LineTooLong}
use Rattle.script_lines.specs.Printed.{printed}
use Rattle.line_loop.specs.Scripts.{PlaysLine, stripped}
use Rattle.directory_tests.specs.Echoes.{echoed, long_lines_fault}

-- a line as it stands
pub echoes : (number : ℕ) (line : List ℕ) → length (stripped line) ≤ longest_line
    → PlaysLine echoed echoed number line (stripped line ++ line_feed ∷ []) None
unfolding echoed
echoes number line short = λ lines. rw (le-ltb longest_line (length (stripped line)) short) refl

-- a line that is too long
pub echoes_fault : (number : ℕ) (line : List ℕ) → longest_line < length (stripped line)
    → PlaysLine echoed echoed number line (text_of_lines (fault_line number 924 ∷ []))
    (Some (record { line = number; fault = LineTooLong }))
echoes_fault number line long = (refl, refl, λ lines. long_lines_fault number (stripped line) lines long)

-- its text
pub fault_behind : (number : ℕ) (before after : List ℕ) → after ≡ before ++ printed (fault_line number 924)
    → after ≡ before ++ text_of_lines (fault_line number 924 ∷ [])
fault_behind number before after written = written ∙ ap (λ (t : List ℕ). before ++ t) (sym (append-nil (printed (fault_line number 924))))
