-- What a server embeds is a process: each call of the code's silo is a step of the deployment that the silo is of. Its contracts say
-- what it answers and leaves by these same functions of `silo_rules`.
use Rattle.std.specs.Prelude.{◌≡◌, ℕ, ◌+◌, ◌≤◌, List, ◌++◌, Some, Ok, Err, slice_get}
use Rattle.silo_address.specs.Silo.{Silo}
use Rattle.directory_rules.specs.Input.{Does}
use Rattle.directory_rules.specs.State.{Letter}
use Rattle.directory_rules.specs.declared.own_step.OwnStep.{OwnStep}
use Rattle.directory_rules.specs.Step.{Stepped}
use Rattle.directory_rules.specs.Membership.{Change, Join, Membership, changed, listing_of}
use Rattle.silo_rules.specs.SiloValue.{SiloValue, first_silo}
use Rattle.silo_rules.specs.Steps.{does, sees, receives}
use Rattle.silo_rules.specs.Told.{Heard, told}
use Rattle.silo_rules.specs.Begun.{told_view}
use Rattle.deployment_headline.specs.Deployment.{Deployment, process_of}
use Rattle.deployment_headline.specs.Steps.{Decide, Tell, Begin, See, Do, Receive, heard, begins, took, after}

-- the steps by which a silo's process takes part in the deployment, beside the calls that make them
pub record TakesItsSteps (d : Deployment) (silo : Silo) (s : SiloValue) : Type 0 where
  -- `joined`, `leaving` and `dead`: the changes, each with the version that it made
  pub tells : (index : ℕ) (change : Change) → slice_get d.changes index ≡ Some change → after d (Tell silo index) ≡ heard (told s.node.settings s.membership (index + 1) change) d silo s
  -- `begin`: the view of a version that was decided
  pub begins_so : (version : ℕ) → version ≤ d.membership.views.version → after d (Begin silo version) ≡ begins (told_view s.node.settings s.membership silo version (listing_of d.membership version)) d silo s
  -- `see`
  pub sees_so : (version : ℕ) → after d (See silo version) ≡ took (sees s version) d silo s
  -- `wake`, `close`, `cancel`, `find`, `forget`, `nudge`, `nudge_grain`, `nudge_ranges` and `offer`
  pub asks : (step : OwnStep) → after d (Do silo step) ≡ took (does s (Does step)) d silo s
  -- `receive`: any letter that was written
  pub receives_so : (index : ℕ) (letter : Letter) → slice_get d.written index ≡ Some letter → after d (Receive silo index) ≡ took (receives s letter) d silo s

-- so it is the deployment's process before the call, and after it
pub record CallsAreSteps : Type 0 where
  -- `new`: who joins has a process that was told nothing yet
  pub starts : (d : Deployment) (silo : Silo) (stated : List ℕ) (m : Membership) → changed d.settings d.membership (Join silo stated) ≡ Ok m → process_of (after d (Decide (Join silo stated))) silo ≡ Some (first_silo d.settings silo)
  pub takes : (d : Deployment) (silo : Silo) (s : SiloValue) → process_of d silo ≡ Some s → TakesItsSteps d silo s
  -- what a call leaves is the process from then on, and the letters that it answers are written
  pub hears : (d : Deployment) (silo : Silo) (s : SiloValue) (its : Heard) → process_of (heard (Ok its) d silo s) silo ≡ Some (record s { membership = its.membership })
  pub has_begun : (d : Deployment) (silo : Silo) (s : SiloValue) (m : Membership) → process_of (begins (Ok m) d silo s) silo ≡ Some (record s { membership = m })
  pub goes_on : (d : Deployment) (silo : Silo) (s : SiloValue) (stepped : Stepped) → process_of (took (Ok stepped) d silo s) silo ≡ Some (record s { node = stepped.node })
  pub writes : (d : Deployment) (silo : Silo) (s : SiloValue) (stepped : Stepped) → (took (Ok stepped) d silo s).written ≡ d.written ++ stepped.letters
  -- a refusal changes nothing
  pub hears_nothing : (d : Deployment) (silo : Silo) (s : SiloValue) (number : ℕ) → heard (Err number) d silo s ≡ d
  pub begins_nothing : (d : Deployment) (silo : Silo) (s : SiloValue) (number : ℕ) → begins (Err number) d silo s ≡ d
  pub stays : (d : Deployment) (silo : Silo) (s : SiloValue) (number : ℕ) → took (Err number) d silo s ≡ d
