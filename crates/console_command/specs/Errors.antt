-- What the program tells on standard error.
use Rattle.std.specs.Prelude.{◌≡◌, ◌++◌, ℕ, ◌<◌, List, [], length, Option, codes}
use Rattle.std.specs.Fmt.{decimal}
use Rattle.std.specs.declared.io.ErrorKind.{ErrorKind}
use Rattle.std.specs.declared.io.ErrorKind.TheVariants as kind
use Rattle.script_lines.specs.Printed.{printed}
use Rattle.line_loop.specs.declared.ended.Ended.{Ended}
use Rattle.line_loop.specs.declared.ended.Ended.TheVariants as ended
use Rattle.line_loop.specs.declared.fault.ScriptLineFault.{ScriptLineFault}
use Rattle.threaded_play.specs.Endings.{IsSent}
use Rattle.threaded_play.specs.declared.ended.ThreadsEnded.{ThreadsEnded}
use Rattle.threaded_play.specs.declared.ended.ThreadsEnded.TheVariants as threads
use Rattle.console_command.specs.declared.checked.Checked.{Checked as Check}
use Rattle.console_command.specs.declared.checked.Checked.TheVariants as checked
use Rattle.process_answers.specs.declared.player.Dead.{Dead}
use Rattle.console_command.specs.declared.exit.Exit.{Exit}
use Rattle.console_command.specs.declared.exit.Exit.TheVariants.{Played, Threaded, Checked, Silo, AnswerBroken, Refused, OutOfMemory}

-- memory ran out
abbrev pub out_of_memory : List ℕ
out_of_memory = printed (codes "error: out of memory")

-- a read or a write failed
abbrev pub failed_call : List ℕ
failed_call = printed (codes "error: a read or a write failed")

-- the line of that number has a fault, in these words
abbrev pub fault_text : (line : ℕ) → (words : List ℕ) → List ℕ
fault_text line words = codes "error: line " ++ (decimal line ++ (codes ": " ++ printed words))

-- a fault is told by its line, in some words
abbrev pub TellsFault : ScriptLineFault → (text : List ℕ) → Type 0
TellsFault fault text = (words : List ℕ) × (0 < length words) × (text ≡ fault_text fault.line words)

-- what a play's end tells: nothing where all was played
abbrev pub TellsEnd : Ended ScriptLineFault → (text : List ℕ) → Type 0
TellsEnd ended.AtEnd text = text ≡ []
TellsEnd (ended.Stopped fault) text = TellsFault fault text
TellsEnd ended.TooLong text = text ≡ printed (codes "error: the script has more than 268435456 bytes")
TellsEnd ended.OutOfMemory text = text ≡ out_of_memory
TellsEnd ended.Broken text = text ≡ failed_call

-- what the end of a play on threads tells: as a play's, unless receipts differ or something lacks
abbrev pub TellsThreads : ThreadsEnded → (text : List ℕ) → Type 0
TellsThreads (threads.Played ended) text = TellsEnd ended text
TellsThreads threads.ReceiptDiffers text = text ≡ printed (codes "error: the receipts aren't those of the journal")
TellsThreads threads.Lacking text = text ≡ printed (codes "error: memory, a thread or a ring to publish is lacking, or a worker gave up")

-- what a check's end tells: nothing where the dump was judged
abbrev pub TellsCheck : Check → (text : List ℕ) → Type 0
TellsCheck checked.Right text = text ≡ []
TellsCheck checked.Faulty text = text ≡ []
TellsCheck checked.TooLong text = text ≡ printed (codes "error: the dump has more than 268435456 bytes")
TellsCheck checked.OutOfMemory text = text ≡ out_of_memory
TellsCheck checked.Broken text = text ≡ failed_call

-- what the end of a silo's process tells: nothing where its input ended, or the silo is dead
abbrev pub TellsSilo : Ended Dead → (text : List ℕ) → Type 0
TellsSilo ended.AtEnd text = text ≡ []
TellsSilo (ended.Stopped dead) text = text ≡ []
TellsSilo ended.TooLong text = text ≡ printed (codes "error: the input has more than 9223372036854775807 bytes")
TellsSilo ended.OutOfMemory text = text ≡ out_of_memory
TellsSilo ended.Broken text = text ≡ failed_call

-- what the program's end tells: of a mistake some words, of an answer nothing, unless it could not be written
abbrev pub Tells : Exit → (text : List ℕ) → Type 0
Tells (Played ended) text = TellsEnd ended text
Tells (Threaded ended) text = TellsThreads ended text
Tells (Checked ending) text = TellsCheck ending text
Tells (Silo ending) text = TellsSilo ending text
Tells AnswerBroken text = text ≡ failed_call
Tells Refused text = 0 < length text
Tells OutOfMemory text = text ≡ out_of_memory
Tells other text = text ≡ []

-- that is told
abbrev pub IsTold : {E : Type 0} → (writes : E → List ℕ → Option ℕ → E → Type 0) → (contents : E → Option (List ℕ)) → Exit → (old new : E) → Type 0
IsTold writes contents exit old new = (text : List ℕ) × Tells exit text × IsSent writes contents text old new

-- what is told where the words of the command line can't be had
abbrev pub told_without_words : ErrorKind → List ℕ
told_without_words kind.OutOfMemory = out_of_memory
told_without_words _ = printed (codes "error: a word of the command line is not UTF-8")
