-- What happens to a cluster, one step after the other.
use Rattle.std.specs.Prelude.{ℕ, List, [], ◌∷◌, ◌++◌, Option, Some, None, Result, Ok, Err}
use Rattle.std.specs.Map.{remove_entry}
use Rattle.std.specs.BTreeMap.{is_at, insert_entry}
use Rattle.silo_address.specs.Silo.{Silo, silo_cmp}
use Rattle.membership_view.specs.Changes.{occupant}
use Rattle.directory_rules.specs.Settings.{Settings}
use Rattle.directory_rules.specs.Membership.{Change, Join, Leave, Die, Membership, changed}
use Rattle.process_deployment.specs.Cluster.{JoinTokens, Process, started, reads, Cluster, first_cluster, process_at}

-- a step
pub data Step : Type 0 where
  -- the next change is decided: who joins has a process from now on
  Decide : Change → Step
  -- a silo's process reads a line
  Read : Silo → (line : List ℕ) → Step

-- ---- Changes.

-- who is Dead from now on: whom a silo that joins replaces, and who dies
abbrev pub dying : Membership → Change → Option Silo
dying m (Join silo stated) = occupant silo m.views.rows
dying m (Leave silo) = None
dying m (Die silo) = Some silo

-- the processes without that silo's
abbrev pub without : Option Silo → List (Silo × Process) → List (Silo × Process)
without None processes = processes
without (Some silo) processes = remove_entry (is_at (silo_cmp silo)) processes

-- the processes of the Dead, and one more
abbrev pub with_process : Option Process → Silo → List (Silo × Process) → List (Silo × Process)
with_process None silo dead = dead
with_process (Some p) silo dead = insert_entry silo_cmp dead silo p

-- the processes of the Dead with that silo's
abbrev pub with_dying : Option Silo → List (Silo × Process) → (dead : List (Silo × Process)) → List (Silo × Process)
with_dying None processes dead = dead
with_dying (Some silo) processes dead = with_process (process_at silo processes) silo dead

-- a silo that joins has a process
abbrev pub with_started : Settings → JoinTokens → Change → List (Silo × Process) → List (Silo × Process)
with_started settings tokens (Join silo stated) processes = insert_entry silo_cmp processes silo (started settings tokens silo)
with_started settings tokens (Leave silo) processes = processes
with_started settings tokens (Die silo) processes = processes

-- by what the change makes; one that membership or places refuse isn't decided
abbrev pub decided : Result Membership ℕ → Cluster → Change → Cluster
decided (Err number) c change = c
decided (Ok membership) c change = record {
  settings = c.settings;
  tokens = c.tokens;
  changes = c.changes ++ change ∷ [];
  membership = membership;
  processes = with_started c.settings c.tokens change (without (dying c.membership change) c.processes);
  dead = with_dying (dying c.membership change) c.processes c.dead;
}

-- ---- Lines.

-- the processes after the silo's process, if it is one of these, has read a line
abbrev pub read_by : Option Process → Silo → (line : List ℕ) → List (Silo × Process) → List (Silo × Process)
read_by None silo line processes = processes
read_by (Some p) silo line processes = insert_entry silo_cmp processes silo (reads line p)

abbrev pub reading : Silo → (line : List ℕ) → List (Silo × Process) → List (Silo × Process)
reading silo line processes = read_by (process_at silo processes) silo line processes

-- ---- The cluster after a step, and after steps in their order.
unfoldable pub after : Cluster → Step → Cluster
after c (Decide change) = decided (changed c.settings c.membership change) c change
after c (Read silo line) = record c { processes = reading silo line c.processes; dead = reading silo line c.dead }

unfoldable pub after_all : Cluster → List Step → Cluster
after_all c [] = c
after_all c (step ∷ steps) = after_all (after c step) steps

-- the cluster that the steps make of the first one
abbrev pub clustered : Settings → JoinTokens → List Step → Cluster
clustered settings tokens steps = after_all (first_cluster settings tokens) steps
