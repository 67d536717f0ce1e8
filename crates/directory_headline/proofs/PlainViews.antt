-- A join, a leaving and a death change the plain machine's view, and its activations by the silos that are Dead alone.
use Rattle.std.proofs.Common.{arith, ◌≡◌, ◌⊎◌, IsSome, inl, inr, refl, sym, ap, ◌∙◌}
use Rattle.std.specs.Prelude.{true, false, not, is_some, Option, Some, None}
use Rattle.std.specs.Option.{option_map, option_and_then}
use Rattle.silo_address.specs.Silo.{Silo}
use Rattle.silo_address.specs.Grain.{Grain}
use Rattle.membership_view.specs.View.{status_of}
use Rattle.membership_view.specs.Views.{ViewsValue, view_at}
use Rattle.membership_view.specs.Changes as change
use Rattle.membership_view.specs.Step.{Joins, MembershipStep}
use Rattle.hash_ring.specs.Places.{PlacesValue}
use Rattle.directory_rules.proofs.Decided.{died}
use Rattle.directory_rules.specs.Members.{is_dead_in}
use Rattle.directory_rules.specs.State.{Node, World}
use Rattle.directory_rules.specs.Node.{new_node}
use Rattle.directory_rules.specs.Input.{step}
use Rattle.directory_rules.specs.Happens.{node_of, after_joining}
use Rattle.directory_rules.specs.Laws.{ArePeopled, is_live}
use Rattle.directory_rules.specs.PlainMachine.{life_on, plain_of, ViewChanges}
use Rattle.directory_headline.specs.Setting.{is_member_in}
use Rattle.directory_rules.proofs.People.{live_said}
use Rattle.directory_headline.proofs.Settings.{GoesOnTo, member_stays}
use Rattle.directory_headline.proofs.Statuses.{dead_not_live}
use Rattle.directory_headline.proofs.Viewed.{still_there, newcomer, joining_node}

nobody : (o : Option Node) → is_some o ≡ false → o ≡ None
nobody None is = refl
nobody (Some node) is = absurd (cc (is))

-- a node that is there was there, or is that of a silo that has just joined
abbrev pub WasThere : World → Silo → Node → Type 0
WasThere f silo node = (node_of f silo ≡ Some node) ⊎ ((node_of f silo ≡ None) × (node ≡ new_node f.settings silo))

module _ (f later : World) (before : ArePeopled f.views f.nodes) (after : ArePeopled later.views later.nodes) (on : GoesOnTo f later)
    (kept : (silo : Silo) (node : Node) → node_of later silo ≡ Some node → WasThere f silo node) where
  -- a silo that isn't Dead has the node that it had
  node_stays : (silo : Silo) (node : Node) → node_of f silo ≡ Some node → is_dead_in (view_at later.views later.views.version) silo ≡ false
      → node_of later silo ≡ Some node
  node_stays silo node there not_dead = by (node_of later silo) refl
    where
      lives : is_some (node_of later silo) ≡ true
      lives =
          let was : is_member_in (view_at f.views f.views.version) silo ≡ true =
          live_said f.views before.whole f.views.version (omega arith) silo ∙ sym (before.live silo) ∙ ap is_some there in
          let low = on.version in
          after.live silo ∙ sym (live_said later.views after.whole later.views.version (omega arith) silo)
          ∙ member_stays later.views after.whole silo f.views.version later.views.version low (omega arith)
          (ap (λ view. is_member_in view silo) (on.views f.views.version (omega arith)) ∙ was) (ap not not_dead)

      by : (o : Option Node) → node_of later silo ≡ o → node_of later silo ≡ Some node
      by None is = let none = ap is_some is in absurd (cc (lives, none))
      by (Some its) is =
          elim (kept silo its is) [
            | inl same ↦ is ∙ sym same ∙ there
            | inr new ↦ let none = new.0 in absurd (cc (none, there))
          ]

  others : (silo : Silo) (grain : Grain) → is_dead_in (view_at later.views later.views.version) silo ≡ false
      → (plain_of later).lives silo grain ≡ (plain_of f).lives silo grain
  others silo grain not_dead = by (node_of f silo) refl
    where
      new : (its : Option Node) → node_of f silo ≡ None → node_of later silo ≡ its → option_and_then (life_on grain) its ≡ None
      new None was is = refl
      new (Some node) was is =
          elim (kept silo node is) [
            | inl same ↦ absurd (cc (same, was))
            | inr first ↦ ap (life_on grain) first.1
          ]

      by : (o : Option Node) → node_of f silo ≡ o → (plain_of later).lives silo grain ≡ (plain_of f).lives silo grain
      by None was = new (node_of later silo) was refl ∙ sym (ap (λ o. option_and_then (life_on grain) o) was)
      by (Some node) was = ap (λ o. option_and_then (life_on grain) o) (node_stays silo node was not_dead ∙ sym was)

  unused : (silo : Silo) → IsSome ((plain_of f).unused silo) → is_dead_in (view_at later.views later.views.version) silo ≡ false
      → (plain_of later).unused silo ≡ (plain_of f).unused silo
  unused silo some not_dead = by (node_of f silo) refl
    where
      by : (o : Option Node) → node_of f silo ≡ o → (plain_of later).unused silo ≡ (plain_of f).unused silo
      by None was = let none = ap (λ o. option_map (λ (n : Node). n.host.next_count) o) was in absurd (cc (some, none))
      by (Some node) was = ap (λ o. option_map (λ (n : Node). n.host.next_count) o) (node_stays silo node was not_dead ∙ sym was)

  pub view_changes : (way : change.Change) → MembershipStep (view_at f.views f.views.version) way (view_at later.views later.views.version)
      → ViewChanges (plain_of f) (plain_of later)
  view_changes way step = record {
    change = way;
    step = step;
    dead = λ silo grain dead.
        ap (λ o. option_and_then (life_on grain) o) (nobody (node_of later silo)
        (after.live silo ∙ sym (live_said later.views after.whole later.views.version (omega arith) silo)
        ∙ dead_not_live (status_of (view_at later.views later.views.version) silo) dead));
    others = others;
    unused = unused;
  }

-- ---- each change
module _ (f : World) (peopled : ArePeopled f.views f.nodes) where
  -- who joins wasn't there
  no_node : (silo : Silo) (next : ViewsValue) → Joins silo (view_at f.views f.views.version) (view_at next next.version)
      → node_of f silo ≡ None
  no_node silo next step = nobody (node_of f silo) (peopled.live silo ∙ ap is_live (newcomer silo f.views next peopled.whole step))

  pub joining_kept : (silo : Silo) (next : ViewsValue) (added : PlacesValue) (old : Option Silo)
      → Joins silo (view_at f.views f.views.version) (view_at next next.version)
      → (q : Silo) (node : Node) → node_of (after_joining f silo old next added) q ≡ Some node → WasThere f q node
  joining_kept silo next added old step q node there =
      elim (joining_node f peopled silo next added old q node there) [
        | inl its ↦ inr (ap (node_of f) its.0 ∙ no_node silo next step, its.1 ∙ ap (new_node f.settings) (sym its.0))
        | inr was ↦ inl was
      ]

  pub death_kept : (silo : Silo) (q : Silo) (node : Node) → node_of (died f silo).world q ≡ Some node → WasThere f q node
  death_kept silo q node there = inl (still_there f peopled silo q node there)
