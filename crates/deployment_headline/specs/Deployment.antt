-- A deployment: the changes of membership decided so far, a process for each silo that isn't Dead by them, and all letters ever
-- written. A process is one silo by itself.
use Rattle.std.specs.Prelude.{List, [], Option}
use Rattle.std.specs.Map.{lookup}
use Rattle.std.specs.BTreeMap.{is_at}
use Rattle.silo_address.specs.Silo.{Silo, silo_cmp}
use Rattle.directory_rules.specs.Settings.{Settings}
use Rattle.directory_rules.specs.State.{Letter}
use Rattle.directory_rules.specs.Membership.{Change, Membership, first_membership}
use Rattle.silo_rules.specs.SiloValue.{SiloValue}

-- a deployment
pub record Deployment : Type 0 where
  -- those of each silo
  pub settings : Settings
  -- the changes decided so far, the first one first, and what they make
  pub changes : List Change
  pub membership : Membership
  -- the processes, by their silos' addresses; one whose silo is Dead by the changes decided takes no step, so it is left out
  pub processes : List (Silo × SiloValue)
  -- every letter that any process ever wrote, the first one first
  pub written : List Letter

-- before the first change
abbrev pub first_deployment : Settings → Deployment
first_deployment settings = record {
  settings = settings;
  changes = [];
  membership = first_membership settings;
  processes = [];
  written = [];
}

-- the process of a silo that isn't Dead
abbrev pub process_of : Deployment → Silo → Option SiloValue
process_of d silo = lookup (is_at (silo_cmp silo)) d.processes
