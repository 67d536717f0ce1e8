-- What a run writes of an output, by how it ends.
use Rattle.std.specs.Prelude.{◌≡◌, ℕ, List, Option}
use Rattle.std.specs.Io.KnownBytes.{Appends}
use Rattle.texts.specs.Printed.{Output}
use Rattle.script_lines.specs.Spaced.{BeginsWith}
use Rattle.line_loop.specs.Endings.{EndsReading}
use Rattle.line_loop.specs.declared.ended.Ended.{Ended}
use Rattle.line_loop.specs.declared.ended.Ended.TheVariants.{AtEnd, Stopped}

-- the text is all of the output, whose status is the run's; where a line stops the run, it tells how besides; or the text is a beginning
abbrev pub IsOfOutput : {S : Type 0} → (Tells : S → (text : List ℕ) → Type 0) → (stopped : ℕ) → Output → (text : List ℕ) → Ended S → Type 0
IsOfOutput Tells stopped output text AtEnd = output ≡ record { text = text; status = 0 }
IsOfOutput Tells stopped output text (Stopped stop) = (output ≡ record { text = text; status = stopped }) × Tells stop text
IsOfOutput Tells stopped output text other = BeginsWith text output.text

-- an input, which may have so many bytes, has that output: the source's rest is then `rest`, what the sink has is `written`
pub record WritesOutput {S : Type 0} (Tells : S → (text : List ℕ) → Type 0) (stopped most_read : ℕ) (output : Output) (input : List ℕ) (rest begun written : Option (List ℕ)) (ended : Ended S) : Type 0 where
  pub text : List ℕ
  pub writes : Appends begun written text
  pub concludes : IsOfOutput Tells stopped output text ended
  pub reads : EndsReading most_read input rest ended
