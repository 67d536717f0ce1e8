-- A line of a script that is too long is so, whatever comes behind its first bytes.
use Rattle.std.specs.Prelude.{◌≡◌, ℕ, ◌-◌, ◌<◌, ◌≤◌, suc, Bool, true, false, if◌then◌else◌, List, ◌∷◌, ◌++◌, length, take, Option, Some, None}
use Rattle.std.proofs.Common.{◌∙◌, arith, sym}
use Rattle.std.proofs.lemmas.List.{length-append, length-take-le}
use Rattle.std.specs.Io.BufRead.{ends_with_byte, strip_last}
use Rattle.texts.specs.Words.{carriage_return}
use Rattle.script_rules.specs.Script.{longest_line}
use Rattle.line_loop.specs.declared.fault.ScriptLineFault.{ScriptLineFault}
use Rattle.line_loop.specs.Scripts.{PlaysLine, Rule, faulty_output, most_begun, stripped}

-- a byte at the end is one
pub length-strip_last : (byte : ℕ) (bytes : List ℕ) → length bytes ≤ suc (length (strip_last byte bytes))
length-strip_last byte bytes =
    elim (ends_with_byte byte bytes) as (λ (b : Bool). length bytes ≤ suc (length (if b then take (length bytes - 1) bytes else bytes))) [
      | true ↦ let long = length-take-le (length bytes - 1) bytes (omega arith) in omega arith
      | false ↦ omega arith
    ]

pub stripped_too_long : (line more : List ℕ) → most_begun < length line → longest_line < length (stripped (line ++ more))
stripped_too_long line more long = omega (arith, long, length-append line more, length-strip_last carriage_return (line ++ more))

-- so it plays as its first bytes do, where each line that is too long is a fault
pub too_long : (old new : Rule) (number : ℕ) (line more text : List ℕ) (fault : Option ScriptLineFault)
    → ((long : List ℕ) (lines : List (List ℕ)) → longest_line < length long → old number (long ∷ lines) ≡ faulty_output number 924)
    → most_begun < length line → PlaysLine old new number line text fault → PlaysLine old new number (line ++ more) text fault
too_long old new number line more text fault faulty long plays = by fault plays
  where
    same : (lines : List (List ℕ)) → old number (stripped (line ++ more) ∷ lines) ≡ old number (stripped line ∷ lines)
    same lines =
        let stays : longest_line < length (stripped line) = omega (arith, long, length-strip_last carriage_return line) in
        faulty (stripped (line ++ more)) lines (stripped_too_long line more long) ∙ sym (faulty (stripped line) lines stays)

    by : (fault : Option ScriptLineFault) → PlaysLine old new number line text fault → PlaysLine old new number (line ++ more) text fault
    by None plays = λ lines. same lines ∙ plays lines
    by (Some fault) plays = (plays.0, plays.1, λ lines. same lines ∙ plays.2 lines)
