-- The pieces after a sight, and what it seals, against the pieces before it: what is settled afterwards or sealed was settled.
use Rattle.std.proofs.Common.{arith, ◌≡◌, ℕ, ◌<◌, ◌≤◌, List, [], ◌∷◌, refl, ap, ◌∙◌}
use Rattle.std.specs.Prelude.{◌&&◌, ◌||◌, Bool, true, false, cond, not, nat_lt, is_some, find, filter, flat_map, All, Option, Some, None}
use Rattle.std.specs.Option.{option_map}
use Rattle.std.proofs.lemmas.Bool.{lt-ltb, ltb-true}
use Rattle.std.proofs.lemmas.List.Elements.{All-nil, All-cons, All-head, All-tail, All-append, All-map, All-filter, All-weaker}
use Rattle.texts.proofs.Decided.{both}
use Rattle.silo_address.specs.Silo.{Silo, silo_eq}
use Rattle.membership_view.specs.View.{ViewValue}
use Rattle.ring_range.specs.Range.{circle, Range, IsRange, holds}
use Rattle.hash_ring.specs.declared.Hashing.{Hashing}
use Rattle.range_moves.specs.declared.RingArc.{RingArc}
use Rattle.directory_rules.specs.declared.piece_state.PieceState.{PieceState}
use Rattle.directory_rules.specs.declared.piece_state.PieceState.TheVariants as state
use Rattle.directory_rules.specs.declared.piece_state.PieceState.TheVariants.{Settled}
use Rattle.directory_rules.specs.Members.{is_dead_in}
use Rattle.directory_rules.specs.Table.{entries_of}
use Rattle.directory_rules.specs.State.{Piece, Snapshot}
use Rattle.directory_rules.specs.Answer.{piece_with}
use Rattle.directory_rules.specs.Sight.{is_settled, is_owner, was_settled, kept_entries, state_from, missing_state, piece_of, pieces_after, is_handed_over, snapshot_for, sealed}
use Rattle.directory_rules.specs.Laws.{lies_settled}
use Rattle.directory_rules.proofs.Cases.{on_bool}
use Rattle.directory_rules.proofs.Pieces.{under}
use Rattle.directory_headline.specs.Shown.{is_settled_piece, has_settled}
use Rattle.directory_facts.proofs.OwnPieces.{holding, counted, found_counted}

-- ---- the settled piece that has a hash
pub record HasSettledPiece (h : ℕ) (pieces : List (ℕ × Piece)) : Type 0 where
  pub piece : Piece
  pub found : piece_with h pieces ≡ Some piece
  pub settled : piece.state ≡ Settled

settled_is : (its : PieceState) → is_settled its ≡ true → its ≡ Settled
settled_is state.Settled is = refl
settled_is (state.Awaiting from) is = absurd (cc (is))
settled_is state.Recovering is = absurd (cc (is))

pub has_piece : (h : ℕ) (pieces : List (ℕ × Piece)) → HasSettledPiece h pieces → h < circle → has_settled pieces h ≡ true
has_piece h pieces has below =
    ap (λ b. b && nat_lt h circle) (ap is_settled_piece has.found ∙ ap is_settled has.settled) ∙ lt-ltb h circle below

pub of_settled : (h : ℕ) (pieces : List (ℕ × Piece)) → has_settled pieces h ≡ true → HasSettledPiece h pieces × (h < circle)
of_settled h pieces is =
    let so = both (is_settled_piece (piece_with h pieces)) (nat_lt h circle) is in
    (by (piece_with h pieces) refl so.0, ltb-true h circle so.1)
  where
    by : (o : Option Piece) → piece_with h pieces ≡ o → is_settled_piece o ≡ true → HasSettledPiece h pieces
    by None found is = absurd (cc (is))
    by (Some piece) found is = record { piece = piece; found = found; settled = settled_is piece.state is }

-- where a hash is in one piece at most, the one that is settled is found
pub lies_in_one : (h : ℕ) (pieces : List (ℕ × Piece)) → holding h pieces ≤ 1 → lies_settled h pieces ≡ true → HasSettledPiece h pieces
lies_in_one h [] once lies = absurd (cc (lies))
lies_in_one h (e ∷ es) once lies =
    on_bool (λ b. (is_settled e.1.state && holds e.1.range h) ≡ b → (b || lies_settled h es) ≡ true → HasSettledPiece h (e ∷ es))
    (is_settled e.1.state && holds e.1.range h)
    (λ t is so.
    let two = both (is_settled e.1.state) (holds e.1.range h) is in
    record {
      piece = e.1;
      found = ap (λ b. option_map (λ x. x.1) (cond b (Some e) (find (λ x. holds x.1.range h) es))) two.1;
      settled = settled_is e.1.state two.0;
    })
    (λ f is so. beside (holds e.1.range h) refl (λ few. lies_in_one h es few so)) refl lies
  where
    beside : (b : Bool) → holds e.1.range h ≡ b → (holding h es ≤ 1 → HasSettledPiece h es) → HasSettledPiece h (e ∷ es)
    beside true is rest =
        let all = counted h e es true is in
        let there = rest (omega (all, once, arith)) in
        let some = found_counted h es there.piece there.found in
        absurd (omega (all, once, some, arith))
    beside false is rest =
        let all = counted h e es false is in
        let there = rest (omega (all, once, arith)) in
        record {
          piece = there.piece;
          found = ap (λ b. option_map (λ x. x.1) (cond b (Some e) (find (λ x. holds x.1.range h) es))) is
              ∙ there.found;
          settled = there.settled;
        }

-- ---- the pieces that a sight makes
-- a piece that is settled has a range that was, and what is kept for that
pub record IsMade (hashing : Hashing) (view : ViewValue) (pieces : List (ℕ × Piece)) (piece : Piece) : Type 0 where
  pub range : IsRange piece.range
  pub settled : piece.state ≡ Settled → was_settled pieces piece.range ≡ true
  pub entries : piece.state ≡ Settled → piece.entries ≡ kept_entries hashing view pieces piece.range

from_unsettled : (view : ViewValue) (silo : Silo) (from : Option Silo) → is_settled (state_from view silo from) ≡ false
from_unsettled view silo None = refl
from_unsettled view silo (Some owner) =
    on_bool (λ b. is_settled (cond b state.Recovering (state.Awaiting owner)) ≡ false) (silo_eq owner silo || is_dead_in view owner)
    (λ t. refl) (λ f. refl)

missing_unsettled : (next : Bool) (view : ViewValue) (silo : Silo) (from : Option Silo)
    → is_settled (missing_state next view silo from) ≡ false
missing_unsettled true view silo from = from_unsettled view silo from
missing_unsettled false view silo from = refl

module _ (next : Bool) (hashing : Hashing) (view : ViewValue) (silo : Silo) (pieces : List (ℕ × Piece)) where
  arc_made : (arc : RingArc) → IsRange arc.range → IsMade hashing view pieces (piece_of next hashing view silo pieces arc)
  arc_made arc range =
      on_bool (λ b. was_settled pieces arc.range ≡ b
      → IsMade hashing view pieces (cond {A = Piece} b
      (record { range = arc.range; state = Settled; entries = kept_entries hashing view pieces arc.range })
      (record { range = arc.range; state = missing_state next view silo arc.from; entries = [] })))
      (was_settled pieces arc.range)
      (λ t was. record { range = range; settled = λ is. was; entries = λ is. refl })
      (λ f not. record { range = range; settled = λ is. absurd (never arc is); entries = λ is. absurd (never arc is) })
      refl
    where
      never : (arc : RingArc) → missing_state next view silo arc.from ≡ Settled → ⊥
      never arc is = let no = missing_unsettled next view silo arc.from in let yes = ap is_settled is in cc (no, yes)

  pub all_made : (arcs : List RingArc) → All (λ arc. IsRange arc.range) arcs
      → All (λ e. IsMade hashing view pieces e.1) (pieces_after next hashing view silo pieces arcs)
  all_made arcs ranges =
      All-map (λ e. IsMade hashing view pieces e.1) (under next hashing view silo pieces) (filter (λ arc. is_owner silo arc.to) arcs)
      (All-filter (λ arc. is_owner silo arc.to) (λ arc. IsMade hashing view pieces (piece_of next hashing view silo pieces arc)) arcs
      (All-weaker (λ arc. IsRange arc.range) (λ arc. IsMade hashing view pieces (piece_of next hashing view silo pieces arc))
      (λ arc is. arc_made arc is) arcs ranges))

-- ---- the snapshots that it seals
-- the range has a hash
pub record HasHash (range : Range) : Type 0 where
  pub is : IsRange range
  pub present : 0 < range.size

-- a snapshot for the view's version, of a range that was settled, with what is kept for that
pub record IsSealed (hashing : Hashing) (view : ViewValue) (pieces : List (ℕ × Piece)) (snapshot : Snapshot) : Type 0 where
  pub version : snapshot.version ≡ view.version
  pub range : HasHash snapshot.range
  pub settled : was_settled pieces snapshot.range ≡ true
  pub entries : snapshot.entries ≡ entries_of (kept_entries hashing view pieces snapshot.range)

module _ (hashing : Hashing) (view : ViewValue) (silo : Silo) (pieces : List (ℕ × Piece)) where
  abbrev Sealed : Snapshot → Type 0
  Sealed snapshot = IsSealed hashing view pieces snapshot

  for_owner : (to : Option Silo) (range : Range) → HasHash range → was_settled pieces range ≡ true
      → All Sealed (snapshot_for to hashing view silo pieces range)
  for_owner None range has was = All-nil Sealed
  for_owner (Some to) range has was =
      All-cons Sealed _ [] (record { version = refl; range = has; settled = was; entries = refl }) (All-nil Sealed)

  pub all_sealed : (arcs : List RingArc) → All (λ arc. HasHash arc.range) arcs
      → All (IsSealed hashing view pieces) (sealed hashing view silo pieces arcs)
  all_sealed [] all = All-nil Sealed
  all_sealed (arc ∷ arcs) all =
      let later = all_sealed arcs (All-tail (λ a. HasHash a.range) arc arcs all) in
      on_bool (λ b. is_handed_over silo pieces arc ≡ b
      → All Sealed (flat_map (λ a. snapshot_for a.to hashing view silo pieces a.range)
      (cond b (arc ∷ filter (is_handed_over silo pieces) arcs) (filter (is_handed_over silo pieces) arcs))))
      (is_handed_over silo pieces arc)
      (λ t is.
      let settled = both (is_owner silo arc.from && is_some arc.to && not (is_owner silo arc.to)) (was_settled pieces arc.range) is in
      All-append Sealed (snapshot_for arc.to hashing view silo pieces arc.range) (sealed hashing view silo pieces arcs)
      (for_owner arc.to arc.range (All-head (λ a. HasHash a.range) arc arcs all) settled.1) later)
      (λ f is. later) refl
