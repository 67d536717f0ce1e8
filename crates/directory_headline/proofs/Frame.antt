-- What a step of a silo may use, and what it has to show: a list of actions of that silo, all allowed, after which the silo's
-- new node and the letters that it sends are shown.
use Rattle.std.proofs.Common.{◌≡◌, ℕ, true, List, [], ◌∷◌, sym, ap, ◌∙◌, arith}
use Rattle.std.specs.Prelude.{⊤, is_some, All, Some}
use Rattle.std.proofs.lemmas.List.Elements.{All-nil, All-cons}
use Rattle.silo_address.specs.Silo.{Silo}
use Rattle.membership_view.specs.View.{status_of}
use Rattle.membership_view.specs.Views.{status_at, view_at}
use Rattle.hash_ring.specs.Hash.{hash_grain}
use Rattle.range_moves.specs.Arcs.{owner_silo}
use Rattle.directory_protocol.specs.Setting.{Setting}
use Rattle.directory_protocol.specs.World as protocol
use Rattle.directory_protocol.specs.Actions.{Action, Allowed}
use Rattle.directory_protocol.specs.Effects.{after, run, AllAllowed}
use Rattle.directory_protocol.specs.Safety.{IsReached}
use Rattle.directory_rules.specs.State.{Letter, Node, World}
use Rattle.directory_rules.specs.Step.{Stepped}
use Rattle.directory_rules.specs.Input.{Input, Sees, Does, Receives}
use Rattle.directory_rules.specs.Happens.{node_of}
use Rattle.directory_rules.proofs.People.{live_said}
use Rattle.directory_rules.specs.Laws.{is_live}
use Rattle.directory_facts.specs.Own.{IsOwnLetter}
use Rattle.directory_facts.proofs.Carried.{IsSight}
use Rattle.directory_headline.specs.Setting.{IsSettingOf, is_member_in, owner_in}
use Rattle.directory_headline.specs.SiloState.{state_of}
use Rattle.directory_headline.specs.Shown.{Shown, IsShownNode, IsShownLetter}
use Rattle.directory_headline.proofs.Actors.{IsBy, AllBy}
use Rattle.directory_headline.proofs.Facts.{WorldFacts, NodeFacts}
use Rattle.directory_headline.proofs.Statuses.{live_alive}

-- a silo of the world f, which w shows, has this node
pub record Here (m : Setting) (f : World) (w : protocol.World) (silo : Silo) (node : Node) : Type 0 where
  pub setting : IsSettingOf m f
  pub facts : WorldFacts m.hash f
  pub there : node_of f silo ≡ Some node
  pub reached : IsReached m w
  pub shown : Shown m f w

-- a letter that comes is the silo's, and is shown
pub record Comes (m : Setting) (f : World) (w : protocol.World) (silo : Silo) (letter : Letter) : Type 0 where
  pub to : letter.to ≡ silo
  pub own : IsOwnLetter f.settings letter
  pub shown : IsShownLetter m.hash w letter

-- what is known of the silo's input
abbrev pub Brings : Setting → World → protocol.World → Silo → Input → Type 0
Brings m f w silo (Sees before view places) = IsSight f.views f.places silo before view places
Brings m f w silo (Does step) = ⊤
Brings m f w silo (Receives letter) = Comes m f w silo letter

-- what a step has to show
pub record Moves (m : Setting) (w : protocol.World) (silo : Silo) (stepped : Stepped) : Type 0 where
  pub actions : List Action
  pub allowed : AllAllowed m actions w
  pub by : AllBy silo actions
  pub node : IsShownNode m (run m actions w) stepped.node (state_of (run m actions w) silo)
  pub letters : All (IsShownLetter m.hash (run m actions w)) stepped.letters

-- no action
pub stays : (m : Setting) (w : protocol.World) (silo : Silo) (stepped : Stepped) → IsShownNode m w stepped.node (state_of w silo)
    → All (IsShownLetter m.hash w) stepped.letters → Moves m w silo stepped
stays m w silo stepped node letters = record { actions = []; allowed = tt; by = tt; node = node; letters = letters }

-- one action
pub acts :
    (m : Setting) (w : protocol.World) (silo : Silo) (stepped : Stepped) (a : Action) → Allowed m w a → IsBy silo a
    → IsShownNode m (after m w a) stepped.node (state_of (after m w a) silo) → All (IsShownLetter m.hash (after m w a)) stepped.letters
    → Moves m w silo stepped
acts m w silo stepped a allowed by node letters =
    record { actions = a ∷ []; allowed = (allowed, tt); by = (by, tt); node = node; letters = letters }

pub no_letters : (P : Letter → Type 0) → All P []
no_letters P = All-nil P

pub one_letter : (P : Letter → Type 0) (letter : Letter) → P letter → All P (letter ∷ [])
one_letter P letter is = All-cons P letter [] is (All-nil P)

-- ---- what is known of the silo

module _ (m : Setting) (f : World) (w : protocol.World) (silo : Silo) (node : Node) (here : Here m f w silo node) where
  pub node_facts : NodeFacts m.hash f silo node
  node_facts = here.facts.nodes silo node here.there

  pub node_shown : IsShownNode m w node (state_of w silo)
  node_shown = here.shown.live silo node here.there

  pub host_is : node.host.silo ≡ silo
  host_is = node_facts.own.host_is

  pub hash_is : m.hash ≡ hash_grain node.settings.hashing
  hash_is = here.setting.hash ∙ ap (λ s. hash_grain s.hashing) (sym node_facts.own.settings_are)

  pub live_now : is_live (status_at f.views f.views.version silo) ≡ true
  live_now = sym (here.facts.peopled.live silo) ∙ ap is_some here.there

  live_view : is_live (status_of (view_at f.views f.views.version) silo) ≡ true
  live_view = live_said f.views here.facts.peopled.whole f.views.version (omega arith) silo ∙ live_now

  pub alive : m.alive w.now silo ≡ true
  alive =
      ap (λ version. m.alive version silo) here.shown.now ∙ here.setting.alive f.views.version silo (omega arith)
      ∙ live_alive (status_of (view_at f.views f.views.version) silo) live_view

  -- of the version that it has seen
  pub seen_is : w.seen silo ≡ node.view.version
  seen_is = node_shown.seen

  pub member_is : (s : Silo) → m.member node.view.version s ≡ is_member_in node.view s
  member_is s =
      here.setting.member node.view.version s node_facts.sees.within ∙ ap (λ view. is_member_in view s) (sym node_facts.sees.view_is)

  pub owner_is : (hash : ℕ) → m.owner node.view.version hash ≡ owner_silo node.ring.points hash
  owner_is hash =
      here.setting.owner node.view.version hash node_facts.sees.within
      ∙ ap (λ view. owner_in view f.places hash) (sym node_facts.sees.view_is)
      ∙ ap (λ ring. owner_silo ring.points hash) (sym node_facts.sees.ring_is)
