-- What is carried through a run: a fact of the views and places, one of each node, and one of each letter. A step may use that
-- the letter that comes has its fact, and owes it of the letters that it sends.
use Rattle.std.proofs.Common.{◌≡◌, ℕ, ◌-◌, ◌≤◌, List}
use Rattle.std.specs.Prelude.{⊤, All, Ok}
use Rattle.std.specs.Option.{unwrap_or}
use Rattle.silo_address.specs.Silo.{Silo}
use Rattle.membership_view.specs.View.{ViewValue}
use Rattle.membership_view.specs.Views.{ViewsValue, view_at, joining_version}
use Rattle.membership_view.specs.Changes.{Change, after}
use Rattle.membership_view.specs.Changes as change
use Rattle.hash_ring.specs.Places.{PlacesValue, after_add}
use Rattle.directory_rules.specs.Settings.{Settings}
use Rattle.directory_rules.specs.State.{Letter, Node, World}
use Rattle.directory_rules.specs.Node.{new_node}
use Rattle.directory_rules.specs.Event.{Event, Join, Do}
use Rattle.directory_rules.specs.Step.{Stepped}
use Rattle.directory_rules.specs.Input.{Input, Sees, Does, Receives, step}
use Rattle.directory_rules.specs.World.{first_world}

-- what is asked of the settings and of each event, and what is carried
pub record Facts : Type 1 where
  pub asked : Settings → Type 0
  pub named : Event → Type 0
  pub shared : Settings → ViewsValue → PlacesValue → Type 0
  pub node : Settings → ViewsValue → PlacesValue → Silo → Node → Type 0
  pub letter : Settings → Letter → Type 0

-- the input is the view of a version that the silo may see, with the one before it and all places
pub record IsSight (views : ViewsValue) (places : PlacesValue) (silo : Silo) (before view : ViewValue) (brought : PlacesValue) : Type
    0 where
  pub version : ℕ
  pub within : version ≤ views.version
  pub joined : unwrap_or (joining_version views silo) 0 ≤ version
  pub is_before : before ≡ view_at views (version - 1)
  pub is_view : view ≡ view_at views version
  pub is_brought : brought ≡ places

-- what is known of a silo's input
abbrev pub Brings : Facts → Settings → ViewsValue → PlacesValue → Silo → Input → Type 0
Brings F settings views places silo (Sees before view brought) = IsSight views places silo before view brought
Brings F settings views places silo (Does step) = F.named (Do silo step)
Brings F settings views places silo (Receives letter) = (letter.to ≡ silo) × F.letter settings letter

-- before a step, and after it
pub record Before (F : Facts) (settings : Settings) (views : ViewsValue) (places : PlacesValue) (silo : Silo) (its : Node) (input : Input) :
    Type 0 where
  pub shared : F.shared settings views places
  pub node : F.node settings views places silo its
  pub brings : Brings F settings views places silo input

pub record After (F : Facts) (settings : Settings) (views : ViewsValue) (places : PlacesValue) (silo : Silo) (stepped : Stepped) : Type
    0 where
  pub node : F.node settings views places silo stepped.node
  pub letters : All (F.letter settings) stepped.letters

-- the views and places go on to others, and each node stays
pub record GoesOn (F : Facts) (settings : Settings) (views : ViewsValue) (places : PlacesValue) (next : ViewsValue) (added : PlacesValue) :
    Type 0 where
  pub shared : F.shared settings next added
  pub nodes : (silo : Silo) (node : Node) → F.node settings views places silo node → F.node settings next added silo node

-- a silo leaves or dies
abbrev pub IsGoing : Change → Type 0
IsGoing (change.Join silo) = ⊥
IsGoing (change.Leave silo) = ⊤
IsGoing (change.Die silo) = ⊤

-- the facts hold at first, and every event keeps them
pub record Keeps (F : Facts) : Type 0 where
  pub first : (settings : Settings) → F.asked settings → F.shared settings (first_world settings).views (first_world settings).places
  pub joining : (settings : Settings) (views next : ViewsValue) (places added : PlacesValue) (silo : Silo) (given : List ℕ)
      → F.named (Join silo given) → F.shared settings views places
      → change.after_join views silo ≡ Ok next → after_add places silo given ≡ Ok added
      → GoesOn F settings views places next added × F.node settings next added silo (new_node settings silo)
  pub going : (settings : Settings) (views next : ViewsValue) (places : PlacesValue) (change : Change) → IsGoing change
      → F.shared settings views places → after views change ≡ Ok next
      → GoesOn F settings views places next places
  pub stepping : (settings : Settings) (views : ViewsValue) (places : PlacesValue) (silo : Silo) (node : Node) (input : Input)
      (stepped : Stepped)
      → Before F settings views places silo node input → step node input ≡ Ok stepped → After F settings views places silo stepped

-- all that is carried, of a world
pub record Everywhere (F : Facts) (world : World) : Type 0 where
  pub shared : F.shared world.settings world.views world.places
  pub nodes : All (λ e. F.node world.settings world.views world.places e.0 e.1) world.nodes
  pub letters : All (λ e. F.letter world.settings e.1.letter) world.mail

-- Facts that rest on others: both are carried.

abbrev pub Both : Facts → Facts → Facts
Both G F = record {
  asked = λ settings. G.asked settings × F.asked settings;
  named = λ event. G.named event × F.named event;
  shared = λ settings views places. G.shared settings views places × F.shared settings views places;
  node = λ settings views places silo node. G.node settings views places silo node × F.node settings views places silo node;
  letter = λ settings letter. G.letter settings letter × F.letter settings letter;
}

-- every event keeps the facts F, where the facts G hold before and after
pub record KeepsBeside (G F : Facts) : Type 0 where
  pub first : (settings : Settings) → F.asked settings → F.shared settings (first_world settings).views (first_world settings).places
  pub joining : (settings : Settings) (views next : ViewsValue) (places added : PlacesValue) (silo : Silo) (given : List ℕ)
      → F.named (Join silo given) → G.shared settings views places → F.shared settings views places
      → change.after_join views silo ≡ Ok next → after_add places silo given ≡ Ok added
      → F.shared settings next added × F.node settings next added silo (new_node settings silo)
  pub joined : (settings : Settings) (views next : ViewsValue) (places added : PlacesValue) (silo : Silo) (given : List ℕ)
      → F.named (Join silo given) → G.shared settings views places → F.shared settings views places
      → change.after_join views silo ≡ Ok next → after_add places silo given ≡ Ok added → (other : Silo) (node : Node)
      → G.node settings views places other node → F.node settings views places other node → F.node settings next added other node
  pub going : (settings : Settings) (views next : ViewsValue) (places : PlacesValue) (change : Change) → IsGoing change
      → G.shared settings views places → F.shared settings views places → after views change ≡ Ok next
      → F.shared settings next places
  pub gone : (settings : Settings) (views next : ViewsValue) (places : PlacesValue) (change : Change) → IsGoing change
      → G.shared settings views places → F.shared settings views places → after views change ≡ Ok next
      → (silo : Silo) (node : Node) → G.node settings views places silo node → F.node settings views places silo node
      → F.node settings next places silo node
  pub stepping : (settings : Settings) (views : ViewsValue) (places : PlacesValue) (silo : Silo) (node : Node) (input : Input)
      (stepped : Stepped)
      → Before G settings views places silo node input → After G settings views places silo stepped
      → Before F settings views places silo node input → step node input ≡ Ok stepped → After F settings views places silo stepped

-- facts that rest on no others are kept beside any
pub beside : (G F : Facts) → Keeps F → KeepsBeside G F
beside G F k = record {
  first = k.first;
  joining = λ settings views next places added silo given named other shared viewed placed.
      let made = k.joining settings views next places added silo given named shared viewed placed in
      (made.0.shared, made.1);
  joined =
      λ settings views next places added silo given named other shared viewed placed q node beside so.
      (k.joining settings views next places added silo given named shared viewed placed).0.nodes q node so;
  going = λ settings views next places way goes other shared is. (k.going settings views next places way goes shared is).shared;
  gone =
      λ settings views next places way goes other shared is silo node beside so.
      (k.going settings views next places way goes shared is).nodes silo node so;
  stepping =
      λ settings views places silo node input stepped other made before is. k.stepping settings views places silo node input stepped before
      is;
}

-- the one or the other half of what an input brings
brings_half : (G F : Facts) (settings : Settings) (views : ViewsValue) (places : PlacesValue) (silo : Silo) (input : Input)
    → Brings (Both G F) settings views places silo input
    → Brings G settings views places silo input × Brings F settings views places silo input
brings_half G F settings views places silo (Sees before view brought) brings = (brings, brings)
brings_half G F settings views places silo (Does step) brings = brings
brings_half G F settings views places silo (Receives letter) brings = ((brings.0, brings.1.0), (brings.0, brings.1.1))

all_both : (P Q : Letter → Type 0) (letters : List Letter) → All P letters → All Q letters → All (λ letter. P letter × Q letter) letters
all_both P Q letters all both = λ k d below. (all k d below, both k d below)

pub both_keep : (G F : Facts) → Keeps G → KeepsBeside G F → Keeps (Both G F)
both_keep G F g f = record {
  first = λ settings asked. (g.first settings asked.0, f.first settings asked.1);
  joining = λ settings views next places added silo given named shared viewed placed.
      let one = g.joining settings views next places added silo given named.0 shared.0 viewed placed in
      let other = f.joining settings views next places added silo given named.1 shared.0 shared.1 viewed placed in (
        record {
          shared = (one.0.shared, other.0);
          nodes =
              λ its node is. (
                one.0.nodes its node is.0,
                f.joined settings views next places added silo given named.1 shared.0 shared.1
                    viewed placed its node is.0 is.1,
              );
        },
        (one.1, other.1),
      );
  going = λ settings views next places change goes shared is.
      let one = g.going settings views next places change goes shared.0 is in
      record {
        shared = (one.shared, f.going settings views next places change goes shared.0 shared.1 is);
        nodes =
            λ its node so. (one.nodes its node so.0, f.gone settings views next places change goes shared.0 shared.1 is its node so.0 so.1);
      };
  stepping = λ settings views places silo node input stepped before is.
      let brings = brings_half G F settings views places silo input before.brings in
      let one : Before G settings views places silo node input = record { shared = before.shared.0; node = before.node.0; brings = brings.0 } in
      let other : Before F settings views places silo node input = record { shared = before.shared.1; node = before.node.1; brings = brings.1 } in
      let made = g.stepping settings views places silo node input stepped one is in
      let too = f.stepping settings views places silo node input stepped one made other is in
      record {
        node = (made.node, too.node);
        letters = all_both (G.letter settings) (F.letter settings) stepped.letters made.letters
            too.letters;
      };
}
