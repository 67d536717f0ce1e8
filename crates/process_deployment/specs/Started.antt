-- The start that is documented: a process is started, reads what was decided so far, and only then is its silo's join decided. It is a
-- run of the cluster, in which who joins has a process from then on.
use Rattle.std.specs.Prelude.{◌≡◌, ⊤, ℕ, false, not, List, [], ◌∷◌, IfSome, filter, Option, Some, None, Result, Ok, Err}
use Rattle.std.specs.BTreeMap.{insert_entry}
use Rattle.silo_address.specs.Silo.{Silo, IsSilo, silo_cmp, silo_eq}
use Rattle.directory_rules.specs.Settings.{Settings}
use Rattle.directory_rules.specs.Membership.{Change, Join, Leave, Die, Membership, changed}
use Rattle.silo_rules.specs.SiloValue.{told_of_its_join}
use Rattle.process_rules.specs.ReadLine.{Asked, Joined, Leaving, Dead, Begin, Receive}
use Rattle.process_rules.specs.Output.{said}
use Rattle.process_deployment.specs.Allowed.{IsDecided, IsDecidedView, TakesJoin, IsLine, IfAsks, May, MayAll}
use Rattle.process_deployment.specs.Cluster.{JoinTokens, Process, started, Cluster, first_cluster, process_at}
use Rattle.process_deployment.specs.Steps.{Step, Decide, Read, decided, reading, after, clustered}

-- a cluster, and the processes that were started whose silos' joins aren't decided
pub record Starting : Type 0 where
  pub cluster : Cluster
  pub waiting : List (Silo × Process)

-- what happens to it
pub data StartingStep : Type 0 where
  -- a silo's process is started
  Start : Silo → StartingStep
  -- one that waits reads a line
  ReadEarly : Silo → (line : List ℕ) → StartingStep
  -- a step of the cluster
  Go : Step → StartingStep

-- the process of a silo that joins is the one that waits, if one does
abbrev pub its_process : Option Process → Silo → Cluster → Cluster
its_process None silo c = c
its_process (Some p) silo c = record c { processes = insert_entry silo_cmp c.processes silo p }

abbrev pub with_waiting : Change → (waiting : List (Silo × Process)) → Cluster → Cluster
with_waiting (Join silo stated) waiting c = its_process (process_at silo waiting) silo c
with_waiting (Leave silo) waiting c = c
with_waiting (Die silo) waiting c = c

-- and it waits no more
abbrev pub still_waiting : Change → List (Silo × Process) → List (Silo × Process)
still_waiting (Join silo stated) waiting = filter (λ e. not (silo_eq e.0 silo)) waiting
still_waiting (Leave silo) waiting = waiting
still_waiting (Die silo) waiting = waiting

-- by what the change makes, or its refusal
abbrev pub joining : Result Membership ℕ → Starting → Change → Starting
joining (Err number) s change = s
joining (Ok m) s change = record { cluster = with_waiting change s.waiting (decided (Ok m) s.cluster change); waiting = still_waiting change s.waiting }

unfoldable pub after_starting : Starting → StartingStep → Starting
after_starting s (Start silo) = record s { waiting = insert_entry silo_cmp s.waiting silo (started s.cluster.settings s.cluster.tokens silo) }
after_starting s (ReadEarly silo line) = record s { waiting = reading silo line s.waiting }
after_starting s (Go (Decide change)) = joining (changed s.cluster.settings s.cluster.membership change) s change
after_starting s (Go (Read silo line)) = record s { cluster = after s.cluster (Read silo line) }

unfoldable pub after_all_starting : Starting → List StartingStep → Starting
after_all_starting s [] = s
after_all_starting s (step ∷ steps) = after_all_starting (after_starting s step) steps

-- what may be asked of a process that waits: a change that it is told was decided, and a view with which it begins is that of a version that
-- was. Any letter may come to it, whether it was written or not, since it wasn't told of its join
abbrev pub MayAskEarly : List Change → Process → Asked → Type 0
MayAskEarly changes p (Joined version silo token places) = TakesJoin p (Joined version silo token places) → IsDecided changes p.silo version (Join silo places)
MayAskEarly changes p (Leaving version silo) = IsDecided changes p.silo version (Leave silo)
MayAskEarly changes p (Dead version silo) = IsDecided changes p.silo version (Die silo)
MayAskEarly changes p (Begin version rows) = IsDecidedView changes p.silo version rows
MayAskEarly changes p (Receive letter) = told_of_its_join p.silo ≡ false
MayAskEarly changes p other = ⊤

-- a step that may come: a silo's process is started once
unfoldable pub MayStart : Starting → StartingStep → Type 0
MayStart s (Start silo) = IsSilo silo × (process_at silo s.waiting ≡ None) × (process_at silo s.cluster.processes ≡ None) × (process_at silo s.cluster.dead ≡ None)
MayStart s (ReadEarly silo line) = IsSilo silo × IsLine line × IfSome (process_at silo s.waiting) (λ p. IfAsks (said line p.silo) (MayAskEarly s.cluster.changes p))
MayStart s (Go step) = May s.cluster step

unfoldable pub MayAllStart : Starting → List StartingStep → Type 0
MayAllStart s [] = ⊤
MayAllStart s (step ∷ steps) = MayStart s step × MayAllStart (after_starting s step) steps

-- before the first step
abbrev pub first_starting : Settings → JoinTokens → Starting
first_starting settings tokens = record { cluster = first_cluster settings tokens; waiting = [] }

-- some steps of a cluster that may come make the same
pub record IsRunFrom (settings : Settings) (tokens : JoinTokens) (c : Cluster) : Type 0 where
  pub steps : List Step
  pub may : MayAll (first_cluster settings tokens) steps
  pub same : clustered settings tokens steps ≡ c

abbrev pub StartsAreRuns : Type 0
StartsAreRuns =
    (settings : Settings) (tokens : JoinTokens) (steps : List StartingStep) → MayAllStart (first_starting settings tokens) steps → IsRunFrom settings tokens (after_all_starting (first_starting settings tokens) steps).cluster
