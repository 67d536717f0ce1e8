-- A deployment at rest: steps made it, and each process has seen the last change. What is known of the worlds that events reach is known
-- of it, by the world that has what it has.
use Rattle.std.proofs.Common.{arith, ◌≡◌, ℕ, suc, ◌+◌, ◌≤◌, List, [], length, refl, sym, ap, ◌∙◌, subst}
use Rattle.std.specs.Prelude.{slice_get, All, Option, Some, None}
use Rattle.std.specs.Option.{option_map}
use Rattle.std.specs.BTreeMap.{is_at}
use Rattle.silo_address.specs.Silo.{Silo, silo_cmp}
use Rattle.membership_view.specs.Views.{ViewsValue}
use Rattle.directory_rules.specs.Settings.{Settings, AreSettings}
use Rattle.directory_rules.specs.State.{Letter, Node, World}
use Rattle.directory_rules.specs.Mail.{letter_of}
use Rattle.directory_rules.specs.Happens.{node_of}
use Rattle.directory_rules.specs.Laws.{ArePeopled}
use Rattle.directory_rules.proofs.Peopled.{peopled_after}
use Rattle.directory_facts.specs.Laws.{world_by}
use Rattle.silo_rules.specs.SiloValue.{SiloValue}
use Rattle.silo_rules.specs.Whole.{IsWhole}
use Rattle.silo_rules.proofs.Whole.{first_are}
use Rattle.progress_rules.specs.ComeBack.{HaveSeen}
use Rattle.progress_rules.specs.Pages.{AwaitedAreLive}
use Rattle.progress_rules.proofs.Resting.{IsResting}
use Rattle.progress_rules.proofs.RoundOfPieces.{starts, live_at_first}
use Rattle.deployment_headline.specs.Deployment.{Deployment, first_deployment, process_of}
use Rattle.deployment_headline.specs.Limits.{with_room, node_with_room, process_with_room, deployment_with_room}
use Rattle.deployment_headline.specs.Steps.{Step, IsStep, deployed}
use Rattle.deployment_headline.proofs.Lists.{lookup-over}
use Rattle.deployment_headline.proofs.Runs.{Makes, made_so, settings_stay, sound_after}
use Rattle.deployment_headline.proofs.Sound.{Sound, sound_first}
use Rattle.deployment_headline.proofs.Worlds.{its_node, node_there, letter_there}
use Rattle.deployment_progress.specs.Quiet.{HaveAllSeen}
use Rattle.deployment_progress.proofs.Wholes.{AreWholes, its_whole, wholes_first, wholes_after}

-- the node that a silo has
abbrev pub node_at : Deployment → Silo → Option Node
node_at d silo = option_map its_node (process_of d silo)

-- a node is that of a process
pub process_with : (o : Option SiloValue) (node : Node) → option_map its_node o ≡ Some node
    → (s : SiloValue) × (o ≡ Some s) × (s.node ≡ node)
process_with None node is = absurd (cc (is))
process_with (Some s) node is = let same : s.node ≡ node = cc (is) in (s, refl, same)

-- a world that events reach has the same nodes, but for the limits on events and letters, and the letters that were written
pub record HasWorld (d : Deployment) : Type 0 where
  pub events : ℕ
  pub letters : ℕ
  pub world : World
  pub rests : IsResting world
  pub lives : AwaitedAreLive world
  pub peopled : ArePeopled world.views world.nodes
  pub views : world.views ≡ d.membership.views
  pub places : world.places ≡ d.membership.places
  pub settings : world.settings ≡ with_room events letters d.settings
  pub nodes : (silo : Silo) → node_of world silo ≡ option_map (node_with_room events letters) (node_at d silo)
  pub mail : (index : ℕ) (letter : Letter) → slice_get d.written index ≡ Some letter → letter_of world (1 + index) ≡ Some letter

roomy_settings : (its : Settings) (events letters : ℕ) → AreSettings its → 1 ≤ events → 1 ≤ letters
    → AreSettings (with_room events letters its)
roomy_settings its events letters are some any = record {
  points_above = are.points_above;
  points_within = are.points_within;
  cache_within = are.cache_within;
  silos_above = are.silos_above;
  silos_within = are.silos_within;
  places_above = are.places_above;
  places_within = are.places_within;
  events_above = some;
  letters_above = any;
  activations_above = are.activations_above;
  activations_within = are.activations_within;
  finds_above = are.finds_above;
  finds_within = are.finds_within;
  last_above = are.last_above;
  last_within = are.last_within;
  report_above = are.report_above;
  report_within = are.report_within;
}

with_same : (e l : ℕ) (o : Option SiloValue) → option_map its_node (option_map (process_with_room e l) o) ≡ option_map (node_with_room e l)
    (option_map its_node o)
with_same e l None = refl
with_same e l (Some s) = refl

module _ (settings : Settings) (steps : List Step) (are : AreSettings settings) (named : All IsStep steps)
    (seen : HaveAllSeen (deployed settings steps)) where
  abbrev d : Deployment
  d = deployed settings steps

  abbrev e : ℕ
  e = suc (length steps)

  abbrev l : ℕ
  l = suc (length d.written)

  all : Makes (first_deployment (with_room e l settings)) (deployment_with_room e l d) 0 (length steps) []
  all = made_so settings steps are named e l (omega arith) (omega arith)

  abbrev w : World
  w = world_by (with_room e l settings) all.events

  roomy : AreSettings (with_room e l settings)
  roomy = roomy_settings settings e l are (omega arith) (omega arith)

  same_views : w.views ≡ d.membership.views
  same_views = ap (λ (x : World). x.views) all.is

  same_nodes : (silo : Silo) → node_of w silo ≡ option_map (node_with_room e l) (node_at d silo)
  same_nodes silo =
      ap (λ x. node_of x silo) all.is ∙ node_there (deployment_with_room e l d) all.count all.letters silo
      ∙ ap (option_map its_node) (lookup-over (process_with_room e l) (is_at (silo_cmp silo)) d.processes)
      ∙ with_same e l (process_of d silo)

  have_seen : HaveSeen w
  have_seen silo node there = by (process_of d silo) refl (sym (same_nodes silo) ∙ there)
    where
      by : (o : Option SiloValue) → process_of d silo ≡ o → option_map (node_with_room e l) (option_map its_node o) ≡ Some node
          → node.view.version ≡ w.views.version
      by None at is = absurd (cc (is))
      by (Some s) at is =
          let same : node_with_room e l s.node ≡ node = cc (is) in
          ap (λ (n : Node). n.view.version) (sym same) ∙ seen silo s at ∙ ap (λ (v : ViewsValue). v.version) (sym same_views)

  pub world_there : HasWorld d
  world_there = record {
    events = e;
    letters = l;
    world = w;
    rests = starts (with_room e l settings) all.events roomy all.named have_seen;
    lives = live_at_first (with_room e l settings) all.events roomy all.named have_seen;
    peopled = peopled_after (with_room e l settings) all.events roomy;
    views = same_views;
    places = ap (λ (x : World). x.places) all.is;
    settings = ap (λ (x : World). x.settings) all.is;
    nodes = same_nodes;
    mail =
        λ index letter found. ap (λ x. letter_of x (1 + index)) all.is
        ∙ letter_there (deployment_with_room e l d) all.count all.letters all.has index ∙ found;
  }

-- ---- at rest
pub record IsAtRest (d : Deployment) : Type 0 where
  pub settings : Settings
  pub steps : List Step
  pub are : AreSettings settings
  pub named : All IsStep steps
  pub is : d ≡ deployed settings steps
  pub seen : HaveAllSeen d

module _ (d : Deployment) (r : IsAtRest d) where
  pub its_world : HasWorld d
  its_world = subst HasWorld (sym r.is) (world_there r.settings r.steps r.are r.named (subst HaveAllSeen r.is r.seen))

  sound_first_so : Sound (first_deployment r.settings)
  sound_first_so = sound_first r.settings (first_are r.settings r.are)

  pub its_sound : Sound d
  its_sound = subst Sound (sym r.is) (sound_after (first_deployment r.settings) sound_first_so r.steps)

  pub its_settings : AreSettings d.settings
  its_settings =
      subst (λ (x : Deployment). AreSettings x.settings) (sym r.is)
      (subst AreSettings (sym (settings_stay (first_deployment r.settings) sound_first_so r.steps)) r.are)

  pub its_wholes : (silo : Silo) (s : SiloValue) → process_of d silo ≡ Some s → IsWhole s
  its_wholes =
      its_whole d its_settings (subst AreWholes (sym r.is)
      (wholes_after (first_deployment r.settings) sound_first_so r.are (wholes_first r.settings) r.steps))
