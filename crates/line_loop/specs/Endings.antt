-- A run to its end: what was read and written, by how it ends.
use Rattle.std.specs.Prelude.{◌≡◌, ◌⊎◌, ℕ, ◌<◌, ◌≤◌, nat_lt, Bool, true, false, if◌then◌else◌, List, [], ◌∷◌, ◌++◌, length, Option, Some, None, ⊤}
use Rattle.std.specs.Io.KnownBytes.{Appends, IsAtEnd}
use Rattle.texts.specs.Words.{line_feed, pieces_at}
use Rattle.line_loop.specs.Calls.{BreaksInTurn, InTurn, ReadsInTurn, WritesTexts}
use Rattle.line_loop.specs.Lines.{PlaysSome, PlaysTo}
use Rattle.line_loop.specs.Sent.{WritesFront}
use Rattle.line_loop.specs.declared.ended.Ended.{Ended}
use Rattle.line_loop.specs.declared.ended.Ended.TheVariants.{AtEnd, Stopped, TooLong, OutOfMemory, Broken}

-- the exit status, by that of a run that a line stops
abbrev pub status_of : {S : Type 0} → (stopped : ℕ) → Ended S → ℕ
status_of stopped AtEnd = 0
status_of stopped (Stopped stop) = stopped
status_of stopped OutOfMemory = 3
status_of stopped TooLong = 5
status_of stopped Broken = 5

-- ---- What is played and written.

-- the text is what all pieces of the input print; what they print up to the one that stops the run; or what some of them do, the first.
-- Where memory runs out, also if a write fails then, the player may have changed besides.
abbrev pub Concludes : {P S : Type 0} → (plays : P → ℕ → List ℕ → Bool → List ℕ → Option S → P → Type 0) → (first : P) → (input text : List ℕ) → (last : P) → Ended S → Type 0
Concludes plays first input text last AtEnd = PlaysTo plays first (pieces_at line_feed input) text None last
Concludes plays first input text last (Stopped stop) = PlaysTo plays first (pieces_at line_feed input) text (Some stop) last
Concludes plays first input text last TooLong = PlaysSome plays first (pieces_at line_feed input) text last
Concludes {P} plays first input text last other = (now : P) × PlaysSome plays first (pieces_at line_feed input) text now

-- it is written behind what the sink had, or a beginning of it
abbrev pub Writes : {S : Type 0} → (text : List ℕ) → (begun written : Option (List ℕ)) → Ended S → Type 0
Writes text begun written Broken = WritesFront text begun written
Writes text begun written other = Appends begun written text

-- where the reading ends: at the end of an input that isn't too long, or of one that is
abbrev pub EndsReading : {S : Type 0} → (most_read : ℕ) → (input : List ℕ) → (rest : Option (List ℕ)) → Ended S → Type 0
EndsReading most_read input rest AtEnd = (length input ≤ most_read) × IsAtEnd rest
EndsReading most_read input rest TooLong = most_read < length input
EndsReading most_read input rest other = ⊤

-- the lines of an input are played from the first on, which leaves the last player, and what they print is written: the source's rest is then
-- `rest`, what the sink has is `written`
pub record Ends {P S : Type 0} (plays : P → ℕ → List ℕ → Bool → List ℕ → Option S → P → Type 0) (most_read : ℕ) (first last : P) (input : List ℕ) (rest begun written : Option (List ℕ)) (ended : Ended S) : Type 0 where
  pub text : List ℕ
  pub concludes : Concludes plays first input text last ended
  pub writes : Writes text begun written ended
  pub reads : EndsReading most_read input rest ended

-- ---- Which calls are made.

-- the lines of which something is due: those that ended, and the one that is begun where it is too long
abbrev pub due_lines : (most_kept : ℕ) → (lines : List (List ℕ)) → (begun : List ℕ) → List (List ℕ)
due_lines most_kept lines begun = if nat_lt most_kept (length begun) then lines ++ begun ∷ [] else lines

-- the text is all that those lines of the bytes print, by none of which the run stops; and no more bytes were read than may be
pub record IsDue (most_kept most_read : ℕ) (prints : (lines : List (List ℕ)) → (text : List ℕ) → Type 0) (bytes text : List ℕ) : Type 0 where
  pub lines : List (List ℕ)
  pub begun : List ℕ
  pub cut : pieces_at line_feed bytes ≡ lines ++ begun ∷ []
  pub printed : prints (due_lines most_kept lines begun) text
  pub within : length bytes ≤ most_read

-- how many bytes wait to be written before a line is played
abbrev pub most_waiting : ℕ
most_waiting = 32768

-- a text that may wait to be written: fewer bytes than those, and what one line prints
pub data MayWait (prints_line : (text : List ℕ) → Type 0) : (text : List ℕ) → Type 0 where
  few : {text : List ℕ} → length text < most_waiting → MayWait prints_line text
  and_a_line : (front line : List ℕ) → length front < most_waiting → prints_line line → MayWait prints_line (front ++ line)

-- the calls of a run in turn: more is read only where all is written that is due
abbrev pub EndsInTurn : {R W : Type 0} → (reads : R → Option (List ℕ) → R → Type 0) → (writes : W → List ℕ → Option ℕ → W → Type 0) → (most_kept most_read : ℕ) → (prints : List (List ℕ) → List ℕ → Type 0) → (prints_line : List ℕ → Type 0)
    → {S : Type 0} → (old new : R × W) → Ended S → Type 0
EndsInTurn reads writes most_kept most_read prints prints_line old new Broken =
    (bytes : List ℕ) × (text : List ℕ) × (at_end : Bool) × BreaksInTurn reads writes (IsDue most_kept most_read prints) (MayWait prints_line) old new bytes text at_end
EndsInTurn reads writes most_kept most_read prints prints_line old new other =
    (bytes : List ℕ) × (text : List ℕ) × (at_end : Bool) × InTurn reads writes (IsDue most_kept most_read prints) (MayWait prints_line) old new bytes text at_end

-- the calls of a run on its source and on its sink: where it breaks, the last read or the last write failed, or a write took nothing; else
-- none did
abbrev pub MakesCalls : {R W : Type 0} → (reads : R → Option (List ℕ) → R → Type 0) → (writes : W → List ℕ → Option ℕ → W → Type 0) → {S : Type 0} → (old new : R × W) → Ended S → Type 0
MakesCalls reads writes old new Broken =
    (ReadsInTurn reads old.0 new.0 false × WritesTexts writes old.1 new.1 true) ⊎ (ReadsInTurn reads old.0 new.0 true × WritesTexts writes old.1 new.1 false)
MakesCalls reads writes old new other = ReadsInTurn reads old.0 new.0 true × WritesTexts writes old.1 new.1 true
