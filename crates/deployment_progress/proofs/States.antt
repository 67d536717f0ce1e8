-- How the states of ranges go on, and what is set where: a silo waits for less.
use Rattle.std.proofs.Common.{arith, ◌≡◌, refl, sym, ap, ◌∙◌, ℕ, ◌<◌, ◌≤◌, List, ◌⊎◌, inl, inr}
use Rattle.std.specs.Prelude.{Bool, true, false, ◌==◌, ◌&&◌, Option, Some, None}
use Rattle.std.specs.Ordering.{nat_cmp}
use Rattle.std.specs.Map.{lookup, set_value}
use Rattle.std.specs.BTreeMap.{is_at}
use Rattle.std.proofs.lemmas.Bool.{eqb-true, eqb-false}
use Rattle.std.proofs.lemmas.Cmp.{nat_cmp_total}
use Rattle.std.proofs.lemmas.Map.Lookups.{exact_unsigned}
use Rattle.texts.proofs.Decided.{both}
use Rattle.silo_address.specs.Silo.{Silo}
use Rattle.ring_range.specs.Range.{Range, range_eq}
use Rattle.directory_rules.specs.declared.piece_state.PieceState.{PieceState}
use Rattle.directory_rules.specs.declared.piece_state.PieceState.TheVariants as state
use Rattle.directory_rules.specs.State.{Gathering, Node, Piece, Table}
use Rattle.directory_rules.specs.Sent.{gathering_of}
use Rattle.directory_rules.specs.Sight.{is_settled}
use Rattle.directory_rules.specs.Transfer.{piece_at, has_range, is_awaiting_from, is_recovering}
use Rattle.directory_rules.proofs.Cases.{on_bool}
use Rattle.directory_facts.proofs.Lookups.{found_set, found_beside_set}
use Rattle.progress_rules.specs.Gathers.{AwaitsFrom}
use Rattle.progress_rules.specs.Waits.{Recovers, Awaits}
use Rattle.progress_rules.proofs.Two.{both_true}
use Rattle.deployment_progress.specs.Waits.{HasSettled, HasToldOn, WaitsForLess}

-- a piece in one of its states
abbrev pub IsIn : (PieceState → Bool) → Node → Range → Type 0
IsIn test node range = has_range test range (piece_at node range) ≡ true

-- ---- a range is in one state
one_state : (test other : PieceState → Bool) → ((its : PieceState) → test its ≡ true → other its ≡ true → ⊥)
    → (range : Range) (o : Option Piece) → has_range test range o ≡ true → has_range other range o ≡ true → ⊥
one_state test other apart range None is too = cc (is)
one_state test other apart range (Some piece) is too =
    apart piece.state (both (range_eq piece.range range) (test piece.state) is).1
    (both (range_eq piece.range range) (other piece.state) too).1

settled_or_recovers : (its : PieceState) → is_settled its ≡ true → is_recovering its ≡ true → ⊥
settled_or_recovers state.Settled is too = cc (too)
settled_or_recovers (state.Awaiting from) is too = cc (is)
settled_or_recovers state.Recovering is too = cc (is)

pub not_settled_and_recovers : (node : Node) (range : Range) → HasSettled node range → Recovers node range → ⊥
not_settled_and_recovers node range = one_state is_settled is_recovering settled_or_recovers range (piece_at node range)

-- ---- what a step makes of the pages had, more exactly: as much is gathered as before, or a page more
abbrev pub HasPagesSo : Node → Node → Type 0
HasPagesSo before after = (range : Range) (giver : Silo) → AwaitsFrom after range giver
    → AwaitsFrom before range giver × ((gathering_of after range ≡ gathering_of before range)
    ⊎ ((gathering_of before range).next < (gathering_of after range).next))

pub record GoesOn (before after : Node) : Type 0 where
  pub less : WaitsForLess before after
  pub pages : HasPagesSo before after

pages_grow : (before after : Node) → HasPagesSo before after → (range : Range) (giver : Silo) → AwaitsFrom after range giver
    → AwaitsFrom before range giver × ((gathering_of before range).next ≤ (gathering_of after range).next)
pages_grow before after so range giver waits =
    let was = so range giver waits in (
      was.0,
      elim was.1 [
        | inl same ↦ (let next = ap (λ (g : Gathering). g.next) same in omega (arith, next))
        | inr more ↦ omega (arith, more)
      ],
    )

module _ (before after : Node) (settings : after.settings ≡ before.settings) (pages : HasPagesSo before after)
    (reports : (range : Range) (silo : Silo) → Recovers before range → Awaits after range silo
    → Awaits before range silo × HasToldOn before after range silo) where
  -- where each piece is in the state that it was in
  pub same_states : ((test : PieceState → Bool) (range : Range)
      → has_range test range (piece_at after range) ≡ has_range test range (piece_at before range)) → GoesOn before after
  same_states same = record {
    less = record {
      settings = settings;
      settled = λ range is. same is_settled range ∙ is;
      recovers = λ range is. inl (same is_recovering range ∙ is);
      awaits = λ range giver is. inl (same (is_awaiting_from giver) range ∙ is);
      recovered = λ range is. inl (sym (same is_recovering range) ∙ is);
      reports = λ range silo was waits. (reports range silo was waits).0;
      told = λ range silo was waits. (reports range silo was waits).1;
      pages = pages_grow before after pages;
    };
    pages = pages;
  }

  -- where one piece is in another
  module _ (its : Range) (old new : PieceState)
      (states : (range : Range) → ((test : PieceState → Bool)
      → has_range test range (piece_at after range) ≡ has_range test range (piece_at before range))
      ⊎ ((test : PieceState → Bool) → (has_range test range (piece_at after range) ≡ (range_eq its range && test new)) ×
      (has_range test range (piece_at before range) ≡ (range_eq its range && test old)))) where
    pub one_moves : (is_settled old ≡ true → is_settled new ≡ true) → (is_recovering old ≡ true → is_settled new ≡ true)
        → ((giver : Silo) → is_awaiting_from giver old ≡ true → (is_recovering new ≡ true) ⊎ (is_settled new ≡ true))
        → (is_recovering new ≡ true → (giver : Silo) × (is_awaiting_from giver old ≡ true)) → GoesOn before after
    one_moves settled recovers awaits recovered = record {
      less = record {
        settings = settings;
        settled = λ range is.
            elim (states range) [
              | inl same ↦ same is_settled ∙ is
              | inr at ↦ (let so = both (range_eq its range) (is_settled old) (sym (at is_settled).1 ∙ is) in (at is_settled).0
                  ∙ both_true (range_eq its range) (is_settled new) so.0 (settled so.1))
            ];
        recovers = λ range is.
            elim (states range) [
              | inl same ↦ inl (same is_recovering ∙ is)
              | inr at ↦ (let so = both (range_eq its range) (is_recovering old) (sym (at is_recovering).1 ∙ is) in
                  inr ((at is_settled).0 ∙ both_true (range_eq its range) (is_settled new) so.0 (recovers so.1)))
            ];
        awaits = λ range giver is.
            elim (states range) [
              | inl same ↦ inl (same (is_awaiting_from giver) ∙ is)
              | inr at ↦
                  let so = both (range_eq its range) (is_awaiting_from giver old) (sym (at (is_awaiting_from giver)).1 ∙ is) in
                  inr (elim (awaits giver so.1) [
                    | inl recovers_now ↦ inl ((at is_recovering).0 ∙ both_true (range_eq its range) (is_recovering new) so.0 recovers_now)
                    | inr settled_now ↦ inr ((at is_settled).0 ∙ both_true (range_eq its range) (is_settled new) so.0 settled_now)
                  ])
            ];
        recovered = λ range is.
            elim (states range) [
              | inl same ↦ inl (sym (same is_recovering) ∙ is)
              | inr at ↦
                  let so = both (range_eq its range) (is_recovering new) (sym (at is_recovering).0 ∙ is) in
                  let from = recovered so.1 in
                  inr (from.0, (at (is_awaiting_from from.0)).1 ∙ both_true (range_eq its range) (is_awaiting_from from.0 old) so.0 from.1)
            ];
        reports = λ range silo was waits. (reports range silo was waits).0;
        told = λ range silo was waits. (reports range silo was waits).1;
        pages = pages_grow before after pages;
      };
      pages = pages;
    }

-- ---- a piece is set
module _ (node after : Node) (range : Range) (old : Piece) (new : PieceState) (table : Table) (found : piece_at node range ≡ Some old)
    (same : old.range ≡ range) where
  abbrev set : Piece
  set = record { range = range; state = new; entries = table }

  abbrev States : Range → Type 0
  States other = ((test : PieceState → Bool) → has_range test other (piece_at after other) ≡ has_range test other (piece_at node other))
      ⊎ ((test : PieceState → Bool) → (has_range test other (piece_at after other) ≡ (range_eq range other && test new)) ×
      (has_range test other (piece_at node other) ≡ (range_eq range other && test old.state)))

  pub set_states : after.holding.pieces ≡ set_value (is_at (nat_cmp range.start)) node.holding.pieces set → (other : Range) → States other
  set_states is other =
      let at : piece_at after other ≡ lookup (is_at (nat_cmp other.start)) (set_value (is_at (nat_cmp range.start)) node.holding.pieces set) = ap (λ (ps : List (ℕ × Piece)). lookup (is_at (nat_cmp other.start)) ps) is in
      on_bool (λ b. (other.start == range.start) ≡ b → States other) (other.start == range.start)
      (λ t it.
      let start = eqb-true other.start range.start it in
      let now : piece_at after other ≡ Some set =
      at ∙ ap (λ k. lookup (is_at (nat_cmp k)) (set_value (is_at (nat_cmp range.start)) node.holding.pieces set)) start
      ∙ found_set nat_cmp nat_cmp_total exact_unsigned range.start set node.holding.pieces
      (ap (λ (o : Option Piece). elim o as (λ _. Bool) [ None ↦ false | Some p ↦ true ]) found) in
      let was : piece_at node other ≡ Some old = ap (λ k. lookup (is_at (nat_cmp k)) node.holding.pieces) start ∙ found in
      inr (λ test. (
        ap (λ (o : Option Piece). has_range test other o) now,
        ap (λ (o : Option Piece). has_range test other o) was ∙ ap (λ (r : Range). range_eq r other && test old.state) same,
      )))
      (λ f it. inl (λ test. ap (λ (o : Option Piece). has_range test other o)
      (at ∙ found_beside_set nat_cmp nat_cmp_total exact_unsigned range.start set node.holding.pieces other.start
      (eqb-false other.start range.start it)))) refl
