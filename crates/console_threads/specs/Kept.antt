-- The commands of a script's lines.
use Rattle.std.specs.Prelude.{◌≡◌, ◌<◌, ◌++◌, ℕ, List, Option, Result, Err, length, refl, ⊤}
use Rattle.std.proofs.Common.{◌∙◌, ap, arith, sym}
use Rattle.std.proofs.lemmas.Bool.{lt-ltb}
use Rattle.texts.specs.Words.{carriage_return}
use Rattle.script_rules.specs.Script.{Command, lines_of, longest_line, read_line}
use Rattle.line_loop.specs.Scripts.{PlaysLine, most_begun, stripped}
use Rattle.line_loop.specs.TooLong.{length-strip_last, stripped_too_long, too_long}
use Rattle.line_loop.specs.declared.ended.Ended.{Ended}
use Rattle.line_loop.specs.declared.ended.Ended.TheVariants as ended
use Rattle.line_loop.specs.declared.fault.ScriptLineFault.{ScriptLineFault}
use Rattle.threaded_play.specs.CarriedOut.{command_in, commands_of}
use Rattle.threaded_play.specs.Faults.{faults_alone, long_lines_are_faults}

-- behind the commands of the lines before it that of a line is kept, if it has one
abbrev pub KeepsLine : (line : List ℕ) → (before after : List Command) → Type 0
KeepsLine line before after = after ≡ before ++ command_in (read_line line)

-- of a line its fault is printed, and its command kept
abbrev pub PlaysAndKeeps : (number : ℕ) → (line text : List ℕ) → Option ScriptLineFault → (before after : List Command) → Type 0
PlaysAndKeeps number line text fault before after = PlaysLine faults_alone faults_alone number line text fault × KeepsLine (stripped line) before after

-- where a script was played to its end, the commands of all its lines are kept
abbrev pub KeepsLines : (script : List ℕ) → (before after : List Command) → Ended ScriptLineFault → Type 0
KeepsLines script before after ended.AtEnd = after ≡ before ++ commands_of (lines_of script)
KeepsLines script before after other = ⊤

read_too_long : (line : List ℕ) → longest_line < length line → read_line line ≡ Err 924
unfolding read_line
read_too_long line long = rw (lt-ltb longest_line (length line) long) refl

-- a line that is too long plays as its first bytes do
pub long_lines : (number : ℕ) (line more text : List ℕ) (fault : Option ScriptLineFault) (before after : List Command) → most_begun < length line
    → PlaysAndKeeps number line text fault before after → PlaysAndKeeps number (line ++ more) text fault before after
long_lines number line more text fault before after long plays =
    let stays : longest_line < length (stripped line) = omega (arith, long, length-strip_last carriage_return line) in
    let same : read_line (stripped line) ≡ read_line (stripped (line ++ more)) = read_too_long (stripped line) stays ∙ sym (read_too_long (stripped (line ++ more)) (stripped_too_long line more long)) in (
      too_long faults_alone faults_alone number line more text fault (long_lines_are_faults number) long plays.0,
      plays.1 ∙ ap (λ (read : Result (Option Command) ℕ). before ++ command_in read) same,
    )
