-- A silo's process: what it writes, as a function of the bytes that it reads.
use Rattle.std.specs.Prelude.{ℕ, Bool, true, false, List, [], ◌∷◌, ◌++◌, codes, Option, Some, None, Result, Ok, Err}
use Rattle.std.specs.Fmt.{decimal}
use Rattle.std.specs.Io.BufRead.{strip_last}
use Rattle.texts.specs.Printed.{Output, text_of_lines}
use Rattle.texts.specs.Words.{sentence, line_feed, carriage_return, pieces_at}
use Rattle.silo_address.specs.Silo.{Silo}
use Rattle.directory_rules.specs.Settings.{Settings}
use Rattle.silo_rules.specs.SiloValue.{SiloValue, first_silo}
use Rattle.process_rules.specs.ReadLine.{Asked, read_silo_line, unended_fault}
use Rattle.process_rules.specs.Answer.{Answered, printing, answered_as}

-- the line that tells a fault
abbrev pub fault_line : (fault : ℕ) → List ℕ
fault_line fault = sentence (codes "fault" ∷ decimal fault ∷ [])

-- what is answered to a line: nothing where it says nothing; a faulty one changes nothing
abbrev pub answered_to : (token : Option (List ℕ)) → Result (Option Asked) ℕ → SiloValue → Answered
answered_to token (Ok None) s = printing [] s
answered_to token (Ok (Some asked)) s = answered_as token asked s
answered_to token (Err fault) s = printing (fault_line fault ∷ []) s

-- what a line says that a line feed ended; a carriage return before that is dropped
abbrev pub said : List ℕ → SiloValue → Result (Option Asked) ℕ
said line s = read_silo_line s.node.settings.hashing (strip_last carriage_return line)

-- what comes next, unless the process has ended
abbrev pub unless_ended : (ends : Bool) → (SiloValue → List ℕ) → SiloValue → List ℕ
unless_ended true next s = []
unless_ended false next s = next s

-- what was printed, and then what comes next
abbrev pub after_line : Answered → (SiloValue → List ℕ) → List ℕ
after_line it next = text_of_lines it.lines ++ unless_ended it.ends next it.silo

-- what stands behind the last line feed
abbrev pub after_last : Option ℕ → List ℕ
after_last None = []
after_last (Some fault) = text_of_lines (fault_line fault ∷ [])

-- what is written on lines: each but the last was ended by a line feed
unfoldable pub written_on : (token : Option (List ℕ)) → List (List ℕ) → SiloValue → List ℕ
written_on token [] s = []
written_on token (last ∷ []) s = after_last (unended_fault last)
written_on token (line ∷ next ∷ lines) s = after_line (answered_to token (said line s) s) (written_on token (next ∷ lines))

-- what is written on all that is read, by a silo that was told nothing yet
abbrev pub written : Settings → Silo → (token : Option (List ℕ)) → List ℕ → List ℕ
written settings silo token bytes = written_on token (pieces_at line_feed bytes) (first_silo settings silo)

-- the output of a silo's process: its status is 0, whether what it reads ends or the silo is dead
abbrev pub silo_output : Settings → Silo → (token : Option (List ℕ)) → List ℕ → Output
silo_output settings silo token bytes = record { text = written settings silo token bytes; status = 0 }
