-- A dump checked to the end: what is read of it and what is written, by how the check ends.
use Rattle.std.specs.Prelude.{◌≡◌, ◌≢◌, ◌⊎◌, ℕ, ◌<◌, ◌≤◌, true, false, List, [], length, Option, ⊤}
use Rattle.std.specs.Io.KnownBytes.{Appends, IsAtEnd}
use Rattle.texts.specs.Printed.{Output}
use Rattle.dump_rules.specs.Judged.{judged_text}
use Rattle.script_lines.specs.Spaced.{BeginsWith}
use Rattle.line_loop.specs.Calls.{ReadsInTurn, WritesText}
use Rattle.line_loop.specs.Scripts.{most_read}
use Rattle.console_command.specs.Source.{HasRead, StaysWithin}
use Rattle.console_command.specs.declared.checked.Checked.{Checked}
use Rattle.console_command.specs.declared.checked.Checked.TheVariants.{Right, Faulty, TooLong, OutOfMemory, Broken}

-- the exit status
abbrev pub status_of : Checked → ℕ
status_of Right = 0
status_of Faulty = 1
status_of OutOfMemory = 3
status_of TooLong = 5
status_of Broken = 5

-- what is written of what is to be said: all of it, with its status; a beginning; or nothing
abbrev pub Concludes : (said : Output) → (text : List ℕ) → Checked → Type 0
Concludes said text Right = said ≡ record { text = text; status = 0 }
Concludes said text Faulty = said ≡ record { text = text; status = 1 }
Concludes said text Broken = BeginsWith text said.text
Concludes said text other = text ≡ []

-- where the reading ends: at the end of the bytes; behind the limit; or, where memory runs out, within it
abbrev pub EndsReading : (bytes : List ℕ) → (rest : Option (List ℕ)) → Checked → Type 0
EndsReading bytes rest Right = (length bytes ≤ most_read) × IsAtEnd rest
EndsReading bytes rest Faulty = (length bytes ≤ most_read) × IsAtEnd rest
EndsReading bytes rest TooLong = most_read < length bytes
EndsReading bytes rest OutOfMemory = StaysWithin bytes rest
EndsReading bytes rest Broken = ⊤

-- bytes are judged, and what is said of them is written behind what the sink had before: the source's rest is then `rest`, what the
-- sink has is `written`
pub record Checks (bytes : List ℕ) (rest begun written : Option (List ℕ)) (checked : Checked) : Type 0 where
  pub text : List ℕ
  pub writes : Appends begun written text
  pub concludes : Concludes (judged_text bytes) text checked
  pub has_read : HasRead bytes rest
  pub ends : EndsReading bytes rest checked

-- the same once all bytes are read: too many they aren't
pub record Tells (bytes : List ℕ) (begun written : Option (List ℕ)) (checked : Checked) : Type 0 where
  pub text : List ℕ
  pub writes : Appends begun written text
  pub concludes : Concludes (judged_text bytes) text checked
  pub not_long : checked ≢ TooLong

-- the writes of a check: those of the text that is said, and where the check breaks, the last of them failed or took nothing; none
-- where nothing is said
abbrev pub WritesSaid : {W : Type 0} → (writes : W → List ℕ → Option ℕ → W → Type 0) → (text : List ℕ) → (old new : W) → Checked → Type 0
WritesSaid writes text old new Right = WritesText writes text old new true
WritesSaid writes text old new Faulty = WritesText writes text old new true
WritesSaid writes text old new Broken = WritesText writes text old new false
WritesSaid writes text old new other = new ≡ old

-- the calls of a check: reads, all well, and then the writes of one text; or reads of which the last failed, where the check breaks
abbrev pub MakesCalls : {R W : Type 0} → (reads : R → Option (List ℕ) → R → Type 0) → (writes : W → List ℕ → Option ℕ → W → Type 0) → (old new : R × W) → Checked → Type 0
MakesCalls reads writes old new Broken =
    (ReadsInTurn reads old.0 new.0 false × (new.1 ≡ old.1)) ⊎ (ReadsInTurn reads old.0 new.0 true × ((text : List ℕ) × WritesSaid writes text old.1 new.1 Broken))
MakesCalls reads writes old new other = ReadsInTurn reads old.0 new.0 true × ((text : List ℕ) × WritesSaid writes text old.1 new.1 other)
