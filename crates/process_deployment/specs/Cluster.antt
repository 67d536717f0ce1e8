-- A cluster of processes: silos that read lines and write lines, whatever carries these from one to another.
use Rattle.std.specs.Prelude.{ℕ, Bool, false, List, [], ◌∷◌, ◌++◌, flat_map, if◌then◌else◌, Option}
use Rattle.std.specs.Map.{lookup}
use Rattle.std.specs.BTreeMap.{is_at}
use Rattle.silo_address.specs.Silo.{Silo, silo_cmp}
use Rattle.directory_rules.specs.Settings.{Settings}
use Rattle.directory_rules.specs.Membership.{Change, Membership, first_membership}
use Rattle.silo_rules.specs.SiloValue.{SiloValue, first_silo}
use Rattle.process_rules.specs.Answer.{Answered}
use Rattle.process_rules.specs.Output.{answered_to, said}

-- the token that each silo's process is started with, if it is started with one
abbrev pub JoinTokens : Type 0
JoinTokens = Silo → Option (List ℕ)

-- a process that was started
pub record Process : Type 0 where
  -- with that token, or with none
  pub token : Option (List ℕ)
  -- the lines that it read, and those that it wrote, the first one first, each without the line feed behind it
  pub read : List (List ℕ)
  pub wrote : List (List ℕ)
  pub silo : SiloValue
  -- it has said that its silo is dead
  pub ended : Bool

-- one that read nothing yet
abbrev pub started : Settings → JoinTokens → Silo → Process
started settings tokens silo = record { token = tokens silo; read = []; wrote = []; silo = first_silo settings silo; ended = false }

-- what it answers to a line
abbrev pub answer_to : (line : List ℕ) → Process → Answered
answer_to line p = answered_to p.token (said line p.silo) p.silo

-- after one line more, by what it answers
abbrev pub having_read : (line : List ℕ) → Answered → Process → Process
having_read line it p = record { token = p.token; read = p.read ++ line ∷ []; wrote = p.wrote ++ it.lines; silo = it.silo; ended = it.ends }

-- it reads a line, unless it has ended
abbrev pub reads : (line : List ℕ) → Process → Process
reads line p = if p.ended then p else having_read line (answer_to line p) p

-- a cluster
pub record Cluster : Type 0 where
  -- those of each process
  pub settings : Settings
  pub tokens : JoinTokens
  -- the changes of membership decided so far, the first one first, and what they make
  pub changes : List Change
  pub membership : Membership
  -- the processes of silos that aren't Dead by these changes, by address
  pub processes : List (Silo × Process)
  -- and those of silos that are
  pub dead : List (Silo × Process)

-- before the first change
abbrev pub first_cluster : Settings → JoinTokens → Cluster
first_cluster settings tokens = record { settings = settings; tokens = tokens; changes = []; membership = first_membership settings; processes = []; dead = [] }

-- the silo's process among these
abbrev pub process_at : Silo → List (Silo × Process) → Option Process
process_at silo processes = lookup (is_at (silo_cmp silo)) processes

-- all processes that were ever started
abbrev pub everyone : Cluster → List (Silo × Process)
everyone c = c.processes ++ c.dead

-- all lines that they wrote
abbrev pub all_lines : Cluster → List (List ℕ)
all_lines c = flat_map (λ e. e.1.wrote) (everyone c)
