-- The calls of a check.
use Rattle.std.proofs.Common.{ℕ, true, List, Option, inr}
use Rattle.line_loop.specs.Calls.{ReadsInTurn}
use Rattle.console_command.specs.Checks.{MakesCalls, WritesSaid}
use Rattle.console_command.specs.declared.checked.Checked.{Checked}
use Rattle.console_command.specs.declared.checked.Checked.TheVariants.{Broken}

-- once all is read, what is said is written
pub is_said : {R W : Type 0} (reads : R → Option (List ℕ) → R → Type 0) (writes : W → List ℕ → Option ℕ → W → Type 0) (old new : R × W)
    (text : List ℕ) (checked : Checked)
    → ReadsInTurn reads old.0 new.0 true → WritesSaid writes text old.1 new.1 checked → MakesCalls reads writes old new checked
is_said reads writes old new text Broken read written = inr (read, (text, written))
is_said reads writes old new text other read written = (read, (text, written))
