-- What may happen to a deployment, one step after the other. A step that may not be taken changes nothing.
use Rattle.std.specs.Prelude.{⊤, ℕ, ◌+◌, ◌<◌, nat_le, if◌then◌else◌, List, [], ◌∷◌, ◌++◌, All, Option, Some, None, Result, Ok, Err}
use Rattle.std.specs.List.{slice_get}
use Rattle.std.specs.Map.{remove_entry}
use Rattle.std.specs.BTreeMap.{is_at, insert_entry}
use Rattle.silo_address.specs.Silo.{Silo, silo_cmp, IsSilo}
use Rattle.membership_view.specs.Changes.{occupant}
use Rattle.ring_range.specs.Range.{circle}
use Rattle.directory_rules.specs.Settings.{Settings}
use Rattle.directory_rules.specs.State.{Letter}
use Rattle.directory_rules.specs.Step.{Stepped}
use Rattle.directory_rules.specs.declared.own_step.OwnStep.{OwnStep}
use Rattle.directory_rules.specs.OwnStep.{IsOwnStep}
use Rattle.directory_rules.specs.Input.{Input, Does}
use Rattle.directory_rules.specs.Membership.{Change, Join, Leave, Die, Membership, changed, listing_of}
use Rattle.silo_rules.specs.SiloValue.{SiloValue, first_silo}
use Rattle.silo_rules.specs.Steps.{does, sees, receives}
use Rattle.silo_rules.specs.Told.{Heard, told}
use Rattle.silo_rules.specs.Begun.{told_view}
use Rattle.deployment_headline.specs.Deployment.{Deployment, first_deployment, process_of}

-- a step
pub data Step : Type 0 where
  -- the next change is decided
  Decide : Change → Step
  -- a process is told the change that was decided after so many others: in its turn, again, or too early
  Tell : Silo → (index : ℕ) → Step
  -- it is told the view of a version that was decided, in place of all changes up to it: before anything else, or in vain
  Begin : Silo → (version : ℕ) → Step
  -- it sees a version
  See : Silo → (version : ℕ) → Step
  -- it does what its own application asks for
  Do : Silo → OwnStep → Step
  -- the letter that was written after so many others comes to a process, to its receiver or astray: for the first time or again, in
  -- any order
  Receive : Silo → (index : ℕ) → Step

-- a change names silos, and its places are hashes
abbrev pub IsChange : Change → Type 0
IsChange (Join silo stated) = IsSilo silo × All (λ place. place < circle) stated
IsChange (Leave silo) = IsSilo silo
IsChange (Die silo) = IsSilo silo

-- a step names silos and grains
abbrev pub IsStep : Step → Type 0
IsStep (Decide change) = IsChange change
IsStep (Tell silo index) = ⊤
IsStep (Begin silo version) = ⊤
IsStep (See silo version) = IsSilo silo
IsStep (Do silo step) = IsSilo silo × IsOwnStep step
IsStep (Receive silo index) = ⊤

-- Changes.

-- without the process of a silo that is Dead from now on
abbrev pub without : Option Silo → List (Silo × SiloValue) → List (Silo × SiloValue)
without None processes = processes
without (Some silo) processes = remove_entry (is_at (silo_cmp silo)) processes

-- the processes after a change: who joins has one, and whom it replaces and who dies has none any more
abbrev pub processes_after : Deployment → Change → List (Silo × SiloValue)
processes_after d (Join silo stated) =
    insert_entry silo_cmp (without (occupant silo d.membership.views.rows) d.processes) silo (first_silo d.settings silo)
processes_after d (Leave silo) = d.processes
processes_after d (Die silo) = without (Some silo) d.processes

-- by what the change makes, or its refusal
abbrev pub decided : Result Membership ℕ → Deployment → Change → Deployment
decided (Err number) d change = d
decided (Ok membership) d change =
    record d { changes = d.changes ++ change ∷ []; membership = membership; processes = processes_after d change }

-- Processes.

-- by what a silo's process makes of what it is told, or its refusal: it knows the change from now on
abbrev pub heard : Result Heard ℕ → Deployment → Silo → SiloValue → Deployment
heard (Err number) d silo s = d
heard (Ok its) d silo s = record d { processes = insert_entry silo_cmp d.processes silo (record s { membership = its.membership }) }

-- by what it begins with, or its refusal
abbrev pub begins : Result Membership ℕ → Deployment → Silo → SiloValue → Deployment
begins (Err number) d silo s = d
begins (Ok m) d silo s = record d { processes = insert_entry silo_cmp d.processes silo (record s { membership = m }) }

-- by a silo's step, or its refusal: its process goes on so, and its letters are written
abbrev pub took : Result Stepped ℕ → Deployment → Silo → SiloValue → Deployment
took (Err number) d silo s = d
took (Ok stepped) d silo s = record d {
  processes = insert_entry silo_cmp d.processes silo (record s { node = stepped.node });
  written = d.written ++ stepped.letters;
}

-- by the change, if it was decided
abbrev pub tells : Option Change → Deployment → Silo → SiloValue → (index : ℕ) → Deployment
tells None d silo s index = d
tells (Some change) d silo s index = heard (told s.node.settings s.membership (index + 1) change) d silo s

-- by the letter, if it was written
abbrev pub delivers : Option Letter → Deployment → Silo → SiloValue → Deployment
delivers None d silo s = d
delivers (Some letter) d silo s = took (receives s letter) d silo s

-- by the silo's process, if it isn't Dead
abbrev pub tells_at : Option SiloValue → Deployment → Silo → (index : ℕ) → Deployment
tells_at None d silo index = d
tells_at (Some s) d silo index = tells (slice_get d.changes index) d silo s index

-- the view of the version is told as the changes decided made it
abbrev pub begins_at : Option SiloValue → Deployment → Silo → (version : ℕ) → Deployment
begins_at None d silo version = d
begins_at (Some s) d silo version =
    if nat_le version d.membership.views.version
    then begins (told_view s.node.settings s.membership silo version (listing_of d.membership version)) d silo s else d

abbrev pub sees_at : Option SiloValue → Deployment → Silo → (version : ℕ) → Deployment
sees_at None d silo version = d
sees_at (Some s) d silo version = took (sees s version) d silo s

abbrev pub does_at : Option SiloValue → Deployment → Silo → Input → Deployment
does_at None d silo input = d
does_at (Some s) d silo input = took (does s input) d silo s

abbrev pub receives_at : Option SiloValue → Deployment → Silo → (index : ℕ) → Deployment
receives_at None d silo index = d
receives_at (Some s) d silo index = delivers (slice_get d.written index) d silo s

-- what its application asks for comes to the silo's process
abbrev pub comes : Deployment → Silo → Input → Deployment
comes d silo input = does_at (process_of d silo) d silo input

-- the deployment after a step
unfoldable pub after : Deployment → Step → Deployment
after d (Decide change) = decided (changed d.settings d.membership change) d change
after d (Tell silo index) = tells_at (process_of d silo) d silo index
after d (Begin silo version) = begins_at (process_of d silo) d silo version
after d (See silo version) = sees_at (process_of d silo) d silo version
after d (Do silo step) = comes d silo (Does step)
after d (Receive silo index) = receives_at (process_of d silo) d silo index

-- after steps, in their order
unfoldable pub after_all : Deployment → List Step → Deployment
after_all d [] = d
after_all d (step ∷ steps) = after_all (after d step) steps

-- the deployment that the steps make of the first one
abbrev pub deployed : Settings → List Step → Deployment
deployed settings steps = after_all (first_deployment settings) steps
