-- How the program ends.
use Rattle.std.specs.Prelude.{◌≡◌, ℕ, ◌<◌, true, false, List, length, Option}
use Rattle.std.specs.declared.io.ErrorKind.{ErrorKind}
use Rattle.std.specs.declared.io.ErrorKind.TheVariants as kind
use Rattle.line_loop.specs.Calls.{WritesText}
use Rattle.line_loop.specs.Endings as lines
use Rattle.threaded_play.specs.Endings as threads
use Rattle.console_command.specs.Checks as check
use Rattle.console_command.specs.declared.exit.Exit.{Exit}
use Rattle.console_command.specs.declared.exit.Exit.TheVariants.{Played, Threaded, Checked, Silo, Answered, AnswerBroken, Refused, OutOfMemory}

-- the exit status
abbrev pub status_of : Exit → ℕ
status_of (Played ended) = lines.status_of 2 ended
status_of (Threaded ended) = threads.status_of ended
status_of (Checked checked) = check.status_of checked
status_of (Silo ended) = lines.status_of 0 ended
status_of Answered = 0
status_of OutOfMemory = 3
status_of Refused = 4
status_of AnswerBroken = 5

-- the writes to the output where words ask for no play, no check and no process: of an answer, which is not empty; else none
abbrev pub WritesAnswer : {W : Type 0} → (writes : W → List ℕ → Option ℕ → W → Type 0) → (old new : W) → Exit → Type 0
WritesAnswer writes old new Answered = (text : List ℕ) × (0 < length text) × WritesText writes text old new true
WritesAnswer writes old new AnswerBroken = (text : List ℕ) × (0 < length text) × WritesText writes text old new false
WritesAnswer writes old new Refused = new ≡ old
WritesAnswer writes old new OutOfMemory = new ≡ old
WritesAnswer writes old new other = ⊥

-- the reads of the source and the writes to the output: those of a play, of a check or of a silo's process; else nothing is read
abbrev pub MakesCalls : {R W : Type 0} → (reads : R → Option (List ℕ) → R → Type 0) → (writes : W → List ℕ → Option ℕ → W → Type 0) → (old new : R × W) → Exit → Type 0
MakesCalls reads writes old new (Played ended) = lines.MakesCalls reads writes old new ended
MakesCalls reads writes old new (Threaded ended) = ⊥
MakesCalls reads writes old new (Checked checked) = check.MakesCalls reads writes old new checked
MakesCalls reads writes old new (Silo ended) = lines.MakesCalls reads writes old new ended
MakesCalls reads writes old new other = (new.0 ≡ old.0) × WritesAnswer writes old.1 new.1 other

-- how the program ends where the words of its command line can't be had
abbrev pub exit_without_words : ErrorKind → Exit
exit_without_words kind.OutOfMemory = OutOfMemory
exit_without_words _ = Refused
