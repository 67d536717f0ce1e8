-- A silo's step is a plain step of the world. The protocol is needed for one thing alone: where an activation becomes firm, no
-- other of its grain is.
use Rattle.std.proofs.Common.{arith, ◌≡◌, ◌≢◌, ℕ, inl, inr, refl, sym, ap, ◌∙◌}
use Rattle.std.specs.Prelude.{true, is_some, Option, Some, None}
use Rattle.std.specs.Option.{option_map, option_and_then}
use Rattle.silo_address.specs.Silo.{Silo}
use Rattle.silo_address.specs.Grain.{Grain}
use Rattle.membership_view.specs.View.{status_of}
use Rattle.membership_view.specs.Views.{view_at}
use Rattle.directory_protocol.proofs.Changes.{silo_cases}
use Rattle.directory_rules.proofs.People.{live_said}
use Rattle.directory_rules.specs.declared.held.Held.{Held}
use Rattle.directory_rules.specs.declared.held.Phase.{Phase}
use Rattle.directory_rules.specs.declared.held.Phase.TheVariants as phase
use Rattle.directory_rules.specs.Host.{held_of}
use Rattle.directory_rules.specs.State.{Node, World}
use Rattle.directory_rules.specs.Happens.{node_of}
use Rattle.directory_rules.specs.Laws.{ArePeopled, is_live}
use Rattle.directory_rules.specs.Settled.{IsFirmOn}
use Rattle.directory_rules.specs.Headline.{NoTwoFirm}
use Rattle.directory_rules.specs.PlainMachine.{Life, Is_asking, Is_firm, Is_closing, life_by, life_of, life_on, plain_of, PlainStep, Change_view, Begin, Make_firm, Yield, Begin_closing, Give_up, End, Nothing_changes, IsChanged, IsSame, Begins, Goes, BecomesFirm, IsPlainStep}
use Rattle.directory_headline.proofs.Statuses.{live_there, live_not_dead}
use Rattle.directory_headline.proofs.PlainWays.{NodeSame, NodeGoes, NodeBegins, IsNodeStep}

-- ---- a silo's step
module _ (f later : World) (silo : Silo) (node next : Node) (peopled : ArePeopled f.views f.nodes) (there : node_of f silo ≡ Some node)
    (then : node_of later silo ≡ Some next)
    (others : (s : Silo) → s ≢ silo → node_of later s ≡ node_of f s) (views : later.views ≡ f.views) where
  view_same : (plain_of later).view ≡ (plain_of f).view
  view_same = ap (λ v. view_at v v.version) views

  lives_of : (w : World) (s : Silo) (its : Node) → node_of w s ≡ Some its → (grain : Grain) → (plain_of w).lives s grain ≡ life_on grain its
  lives_of w s its is grain = ap (λ o. option_and_then (life_on grain) o) is

  unused_of : (w : World) (s : Silo) (its : Node) → node_of w s ≡ Some its → (plain_of w).unused s ≡ Some its.host.next_count
  unused_of w s its is = ap (λ o. option_map (λ (n : Node). n.host.next_count) o) is

  lives_beside : (s : Silo) → s ≢ silo → (grain : Grain) → (plain_of later).lives s grain ≡ (plain_of f).lives s grain
  lives_beside s apart grain = ap (λ o. option_and_then (life_on grain) o) (others s apart)

  unused_beside : (s : Silo) → s ≢ silo → (plain_of later).unused s ≡ (plain_of f).unused s
  unused_beside s apart = ap (λ o. option_map (λ (n : Node). n.host.next_count) o) (others s apart)

  lives_here : (grain : Grain) → life_on grain next ≡ life_on grain node → (s : Silo) → s ≡ silo
      → (plain_of later).lives s grain ≡ (plain_of f).lives s grain
  lives_here grain same s is =
      ap (λ q. (plain_of later).lives q grain) is ∙ lives_of later silo next then grain ∙ same ∙ sym (lives_of f silo node there grain)
      ∙ ap (λ q. (plain_of f).lives q grain) (sym is)

  unused_same : next.host.next_count ≡ node.host.next_count → (s : Silo) → (plain_of later).unused s ≡ (plain_of f).unused s
  unused_same count s =
      elim (silo_cases s silo) [
        | inl is ↦
            ap (λ q. (plain_of later).unused q) is ∙ unused_of later silo next then ∙ ap Some count ∙ sym (unused_of f silo node there)
            ∙ ap (λ q. (plain_of f).unused q) (sym is)
        | inr apart ↦ unused_beside s apart
      ]

  changed : (grain : Grain) (life : Option Life) → life_on grain next ≡ life
      → ((other : Grain) → other ≢ grain → life_on other next ≡ life_on other node)
      → IsChanged (plain_of f) silo grain life (plain_of later)
  changed grain life is elsewhere = record {
    view = view_same;
    there = lives_of later silo next then grain ∙ is;
    elsewhere = λ s g apart.
        elim (silo_cases s silo) [
          | inl same ↦ lives_here g (elsewhere g (λ its. apart (same, its))) s same
          | inr other ↦ lives_beside s other g
        ];
  }

  goes : (life : Life) (after : Option Life) (is : NodeGoes node life after next)
      → Goes (plain_of f) silo is.grain life after (plain_of later)
  goes life after is =
      record {
        was = lives_of f silo node there is.grain
            ∙ is.was;
        changed = changed is.grain after is.there is.elsewhere;
        unused = unused_same is.count;
      }

  same : NodeSame node next → IsSame (plain_of f) (plain_of later)
  same is = record {
    view = view_same;
    unused = unused_same is.count;
    lives = λ s g.
        elim (silo_cases s silo) [
          | inl here ↦ lives_here g (is.lives g) s here
          | inr apart ↦ lives_beside s apart g
        ];
  }

  live_now : is_live (status_of (view_at f.views f.views.version) silo) ≡ true
  live_now = live_said f.views peopled.whole f.views.version (omega arith) silo ∙ sym (peopled.live silo) ∙ ap is_some there

  begins : NodeBegins node next → Begins (plain_of f) (plain_of later)
  begins is = record {
    silo = silo;
    grain = is.grain;
    count = node.host.next_count;
    known = live_there (status_of (view_at f.views f.views.version) silo) live_now;
    alive = live_not_dead (status_of (view_at f.views f.views.version) silo) live_now;
    free = lives_of f silo node there is.grain ∙ is.free;
    fresh = unused_of f silo node there;
    begun = changed is.grain (Some (Is_asking node.host.next_count)) is.there is.elsewhere;
    used = unused_of later silo next then ∙ ap Some is.count;
    others = unused_beside;
  }

  -- an activation that is firm to the plain machine is firm
  phase_firm : (its : Phase) (count other : ℕ) → life_by its count ≡ Is_firm other → its ≡ phase.Firm
  phase_firm (phase.Asking number) count other is = absurd (cc (is))
  phase_firm phase.Firm count other is = refl
  phase_firm (phase.Closing number) count other is = absurd (cc (is))

  held_firm : (s : Silo) (grain : Grain) (count : ℕ) (its : Node) → node_of later s ≡ Some its → (o : Option Held)
      → held_of its.host grain ≡ o → option_map life_of o ≡ Some (Is_firm count) → (held : Held) × IsFirmOn later grain s held
  held_firm s grain count its is None found firm = absurd (cc (firm))
  held_firm s grain count its is (Some held) found firm =
      let one : life_of held ≡ Is_firm count = cc (firm) in
      (held, record { node = its; live = is; found = found; firm = phase_firm held.phase held.count count one })

  node_firm : (s : Silo) (grain : Grain) (count : ℕ) (o : Option Node) → node_of later s ≡ o
      → option_and_then (life_on grain) o ≡ Some (Is_firm count) → (held : Held) × IsFirmOn later grain s held
  node_firm s grain count None is firm = absurd (cc (firm))
  node_firm s grain count (Some its) is firm = held_firm s grain count its is (held_of its.host grain) refl firm

  firm : (count : ℕ) → NoTwoFirm later → NodeGoes node (Is_asking count) (Some (Is_firm count)) next
      → BecomesFirm (plain_of f) (plain_of later)
  firm count one is = record {
    silo = silo;
    grain = is.grain;
    count = count;
    goes = goes (Is_asking count) (Some (Is_firm count)) is;
    alone = λ s other was.
        elim (silo_cases s silo) [
          | inl here ↦
              let asks = ap (λ q. (plain_of f).lives q is.grain) here ∙ lives_of f silo node there is.grain ∙ is.was in
              absurd (cc (asks, was))
          | inr apart ↦
              let its = node_firm s is.grain other (node_of later s) refl (lives_beside s apart is.grain ∙ was) in
              let mine = node_firm silo is.grain count (node_of later silo) refl (lives_of later silo next then is.grain ∙ is.there) in
              absurd (apart (one is.grain s silo its.0 mine.0 its.1 mine.1))
        ];
  }

  pub node_step : (its : PlainStep) → NoTwoFirm later → IsNodeStep node its next → IsPlainStep (plain_of f) its (plain_of later)
  node_step Change_view one is = absurd is
  node_step Begin one is = begins is
  node_step Make_firm one is = firm is.0 one is.1
  node_step Yield one is = (silo, is.1.grain, is.0, goes (Is_asking is.0) None is.1)
  node_step Begin_closing one is = (silo, is.1.grain, is.0, goes (Is_firm is.0) (Some (Is_closing is.0)) is.1)
  node_step Give_up one is = (silo, is.1.grain, is.0, goes (Is_asking is.0) (Some (Is_closing is.0)) is.1)
  node_step End one is = (silo, is.1.grain, is.0, goes (Is_closing is.0) None is.1)
  node_step Nothing_changes one is = same is
