-- Lines played to a cluster, by the rule.
use Rattle.std.specs.Prelude.{◌≡◌, ℕ, ◌<◌, List, [], ◌∷◌, length, refl}
use Rattle.std.proofs.lemmas.Bool.{lt-ltb}
use Rattle.directory_rules.specs.State.{World}
use Rattle.script_rules.specs.Output.{played}
use Rattle.script_rules.specs.Script.{longest_line, read_line}
use Rattle.texts.specs.Printed.{Output}
use Rattle.line_loop.specs.Scripts.{faulty_output, no_output}
use Rattle.console_command.specs.Commands.{in_session}

-- the output of lines, the first of which has this number, from a world on
abbrev pub lines_played : World → (number : ℕ) → (lines : List (List ℕ)) → Output
lines_played world number lines = played number (in_session world) lines

-- no line prints nothing
pub nothing_is_played : (world : World) (number : ℕ) → lines_played world number [] ≡ no_output
unfolding played
nothing_is_played world number = refl

-- a line that is too long is a fault
pub long_lines_are_faults : (world : World) (number : ℕ) (line : List ℕ) (lines : List (List ℕ)) → longest_line < length line
    → lines_played world number (line ∷ lines) ≡ faulty_output number 924
unfolding played read_line
long_lines_are_faults world number line lines long = rw (lt-ltb longest_line (length line) long) refl
