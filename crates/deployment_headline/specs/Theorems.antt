-- What holds of a deployment after any steps: what it has, some events of the rule make too, so the headline holds of it.
use Rattle.std.specs.Prelude.{◌≡◌, ℕ, ◌+◌, ◌<◌, ◌≤◌, List, [], All, Some, Ok, slice_get, map}
use Rattle.silo_address.specs.Silo.{Silo}
use Rattle.silo_address.specs.Grain.{Grain}
use Rattle.membership_view.specs.Views.{most_known, view_at}
use Rattle.directory_rules.specs.declared.held.Held.{Held}
use Rattle.directory_rules.specs.declared.held.Phase.TheVariants.{Firm}
use Rattle.directory_rules.specs.Host.{held_of}
use Rattle.directory_rules.specs.Settings.{Settings, AreSettings}
use Rattle.directory_rules.specs.State.{Node, World}
use Rattle.directory_rules.specs.Event.{Event, IsEvent}
use Rattle.directory_rules.specs.Run.{run_from_start}
use Rattle.directory_rules.specs.Headline.{Headline}
use Rattle.directory_rules.specs.PlainMachine.{PlainStep, IsPlainStep, plain_of}
use Rattle.directory_facts.specs.Own.{IsOwnLetter}
use Rattle.directory_rules.specs.Membership.{Change, Membership, joined_in, listing_of}
use Rattle.silo_rules.specs.SiloValue.{SiloValue}
use Rattle.silo_rules.specs.Told.{Heard, told}
use Rattle.silo_rules.specs.Begun.{told_view}
use Rattle.deployment_headline.specs.Deployment.{Deployment, process_of}
use Rattle.deployment_headline.specs.Limits.{with_room, deployment_with_room}
use Rattle.deployment_headline.specs.Steps.{Step, IsStep, after, deployed}

-- the nodes of the processes, by address
abbrev pub nodes_of : Deployment → List (Silo × Node)
nodes_of d = map (λ e. (e.0, e.1.node)) d.processes

-- the world has what the deployment has: the views and places of the changes decided, the nodes of the processes, and each
-- letter written, in order
pub record IsWorldOf (d : Deployment) (world : World) : Type 0 where
  pub settings : world.settings ≡ d.settings
  pub views : world.views ≡ d.membership.views
  pub places : world.places ≡ d.membership.places
  pub nodes : world.nodes ≡ nodes_of d
  pub mail : map (λ e. e.1.letter) world.mail ≡ d.written

-- some events of the rule make such a world, where the limits on events and letters are as high as these events need
pub record IsRun (d : Deployment) : Type 0 where
  pub most_events : ℕ
  pub most_letters : ℕ
  pub events : List Event
  pub named : All IsEvent events
  pub same : IsWorldOf (deployment_with_room most_events most_letters d) (run_from_start (with_room most_events most_letters d.settings) events).world

-- what holds of the deployment after any steps
abbrev pub AfterAnySteps : (Deployment → Type 0) → Type 0
AfterAnySteps Holds = (settings : Settings) (steps : List Step) → AreSettings settings → All IsStep steps → Holds (deployed settings steps)

abbrev pub DeploymentsAreRuns : Type 0
DeploymentsAreRuns = AfterAnySteps IsRun

-- each letter written is its sender's own: a request repeats its sender, its version and its grain's hash, a report its sender and its
-- version, a page its version
abbrev pub WrittenAreOwn : Type 0
WrittenAreOwn = (settings : Settings) (steps : List Step) → AreSettings settings → All IsStep steps → All (IsOwnLetter settings) (deployed settings steps).written

-- a grain's activation is firm on the silo, by its process
pub record IsFirmAt (d : Deployment) (grain : Grain) (silo : Silo) : Type 0 where
  pub process : SiloValue
  pub there : process_of d silo ≡ Some process
  pub held : Held
  pub found : held_of process.node.host grain ≡ Some held
  pub firm : held.phase ≡ Firm

-- no two processes have a grain firm
abbrev pub NoTwoFirm : Deployment → Type 0
NoTwoFirm d = (grain : Grain) (s t : Silo) → IsFirmAt d grain s → IsFirmAt d grain t → s ≡ t

-- a process is its silo's, by the deployment's settings
pub record IsOwn (d : Deployment) (silo : Silo) (s : SiloValue) : Type 0 where
  pub set_up : s.node.settings ≡ d.settings
  pub address : s.node.host.silo ≡ silo

-- what a process was told is how the changes decided go on from the version with which it begins: from there on it has their views, and it
-- refuses no next change
pub record IsBehind (d : Deployment) (s : SiloValue) : Type 0 where
  pub first : s.membership.views.first ≤ s.membership.views.version
  pub version : s.membership.views.version ≤ d.membership.views.version
  pub views : (k : ℕ) → s.membership.views.first ≤ k → k ≤ s.membership.views.version → view_at s.membership.views k ≡ view_at d.membership.views k
  pub next : (change : Change) → slice_get d.changes s.membership.views.version ≡ Some change
      → (its : Heard) × (told s.node.settings s.membership (s.membership.views.version + 1) change ≡ Ok its)

-- a process that was told nothing may be told the view of each version that was decided before its silo's join
pub record MayBegin (d : Deployment) (silo : Silo) (s : SiloValue) : Type 0 where
  pub begins : (version : ℕ) → s.membership.views.version ≡ 0 → version < most_known → version < joined_in d.membership silo
      → (m : Membership) × (told_view s.node.settings s.membership silo version (listing_of d.membership version) ≡ Ok m)

-- what holds of each process, under its silo's address
abbrev pub EachProcess : (Silo → SiloValue → Type 0) → Deployment → Type 0
EachProcess Holds d = (silo : Silo) (s : SiloValue) → process_of d silo ≡ Some s → Holds silo s

abbrev pub ProcessesAreOwn : Type 0
ProcessesAreOwn = AfterAnySteps (λ d. EachProcess (λ silo s. IsOwn d silo s) d)

abbrev pub ProcessesAreBehind : Type 0
ProcessesAreBehind = AfterAnySteps (λ d. EachProcess (λ silo s. IsBehind d s) d)

abbrev pub ProcessesMayBegin : Type 0
ProcessesMayBegin = AfterAnySteps (λ d. EachProcess (λ silo s. MayBegin d silo s) d)

-- the deployment as a world in which nothing is on its way
abbrev pub world_of : Deployment → World
world_of d = record {
  settings = d.settings;
  accepted = 0;
  views = d.membership.views;
  places = d.membership.places;
  nodes = nodes_of d;
  mail = [];
  sent = 0;
}

abbrev pub ProcessesKeepTheHeadline : Type 0
ProcessesKeepTheHeadline = AfterAnySteps (λ d. Headline (world_of d))

abbrev pub ProcessesKeepOneFirm : Type 0
ProcessesKeepOneFirm = AfterAnySteps NoTwoFirm

-- seen from outside, each step is one step of the plain machine
abbrev pub StepsArePlain : Type 0
StepsArePlain = AfterAnySteps (λ d. (s : Step) → IsStep s → (kind : PlainStep) × IsPlainStep (plain_of (world_of d)) kind (plain_of (world_of (after d s))))

-- a deployment is the same whatever these limits are
abbrev pub LimitsDoNotMatter : Type 0
LimitsDoNotMatter =
    (settings : Settings) (steps : List Step) (events letters : ℕ) → deployed (with_room events letters settings) steps ≡ deployment_with_room events letters (deployed settings steps)
