-- A process that isn't told of its silo's join takes no step and sends no letter, whatever lines come to it. One that was started with a
-- token isn't told of it unless a line carries that token: so a silo's process may be started again with another one.
use Rattle.std.specs.Prelude.{◌≡◌, ℕ, List, [], ◌∷◌, All, Some, Ok}
use Rattle.std.specs.Io.BufRead.{strip_last}
use Rattle.texts.specs.Words.{carriage_return}
use Rattle.silo_address.specs.Silo.{Silo}
use Rattle.directory_rules.specs.State.{Letter}
use Rattle.directory_rules.specs.Node.{new_node}
use Rattle.directory_rules.specs.Settings.{Settings, AreSettings}
use Rattle.process_rules.specs.ReadLine.{Asked, Receive, read_silo_line}
use Rattle.process_rules.specs.OutputLaws.{CarriesItsJoin}
use Rattle.process_deployment.specs.Cluster.{JoinTokens, Process, started, reads}

-- the process after it has read these lines, the first one first
abbrev pub reads_all : (lines : List (List ℕ)) → Process → Process
reads_all [] p = p
reads_all (line ∷ lines) p = reads_all lines (reads line p)

-- the line doesn't tell the silo's join with the token
abbrev pub TellsNoJoin : Settings → Silo → (token line : List ℕ) → Type 0
TellsNoJoin settings silo token line = (asked : Asked) → read_silo_line settings.hashing (strip_last carriage_return line) ≡ Ok (Some asked) → ¬ (CarriesItsJoin silo token asked)

-- it isn't read as a letter
abbrev pub SaysNoLetter : Settings → (line : List ℕ) → Type 0
SaysNoLetter settings line = (letter : Letter) → ¬ (read_silo_line settings.hashing line ≡ Ok (Some (Receive letter)))

-- it has the node with which it began, and none of its lines says a letter
pub record HasDoneNothing (settings : Settings) (silo : Silo) (p : Process) : Type 0 where
  pub node : p.silo.node ≡ new_node settings silo
  pub wrote : All (SaysNoLetter settings) p.wrote

abbrev pub UnjoinedDoNothing : Type 0
UnjoinedDoNothing =
    (settings : Settings) (tokens : JoinTokens) (silo : Silo) (token : List ℕ) (lines : List (List ℕ)) → AreSettings settings → tokens silo ≡ Some token
    → All (TellsNoJoin settings silo token) lines → HasDoneNothing settings silo (reads_all lines (started settings tokens silo))
