-- The pieces that stay, put back among the pieces made, are the pieces after the sight.
use Rattle.std.proofs.Common.{arith, ◌≡◌, refl, sym, ap, ◌∙◌, subst, ℕ, ◌<◌, ◌≤◌, nat_le, List, [], ◌∷◌}
use Rattle.std.specs.Prelude.{Bool, true, false, cond, Option, Some, None, fold, map, filter}
use Rattle.std.specs.List.Sorted.{IsStrictlySortedBy}
use Rattle.std.specs.Map.{keys_of, lookup, set_value}
use Rattle.std.specs.BTreeMap.{is_at}
use Rattle.std.specs.Ordering.{nat_cmp}
use Rattle.std.proofs.lemmas.Cmp.{eq_by_cmp_equiv, nat_cmp_total}
use Rattle.std.proofs.lemmas.Map.{keys-set_value, lookup-none}
use Rattle.std.proofs.lemmas.Map.Entries.{none_past_head}
use Rattle.std.proofs.lemmas.Map.Keys.{sorted_tail, IsDistinct-from_sorted}
use Rattle.std.proofs.lemmas.Map.Lookups.{exact_unsigned}
use Rattle.std.proofs.lemmas.Bool.{leb-true}
use Rattle.texts.proofs.Orderings.{Equal-from}
use Rattle.silo_address.specs.Silo.{Silo}
use Rattle.membership_view.specs.View.{ViewValue}
use Rattle.membership_view.proofs.Found.{same_entries}
use Rattle.texts.proofs.Decided.{both}
use Rattle.ring_range.specs.Range.{Range, IsRange, circle, distance, holds}
use Rattle.hash_ring.specs.declared.Hashing.{Hashing}
use Rattle.range_moves.specs.declared.RingArc.{RingArc}
use Rattle.directory_rules.specs.declared.PieceState.{PieceState}
use Rattle.directory_rules.specs.declared.PieceState.TheVariants.{Settled}
use Rattle.directory_rules.specs.State.{Piece, Table}
use Rattle.directory_rules.specs.Sight.{is_owner, is_settled, kept_entries, missing_state, piece_of, pieces_after, was_settled}
use Rattle.directory_rules.proofs.Pieces.{piece_range}
use Rattle.grain_partition.specs.Holdings.{ArePieces, are_tidy}
use Rattle.grain_partition.specs.Sight.{AreApart}
use Rattle.grain_partition.specs.Kept.{covers, left_of, piece_made, pieces_made, put_back, staying, stays_as, with_staying}
use Rattle.grain_partition.proofs.Around.{below-holds, holds-below}
use Rattle.grain_partition.proofs.FromArcs.{made, sorted_made}
use Rattle.grain_partition.proofs.OnePiece.{at_lookup}
use Rattle.grain_partition.proofs.SettledHashes.{lies_by}
use Rattle.grain_partition.proofs.SettledParts.{Decides-was_settled}
use Rattle.grain_partition.proofs.Tidy.{kept_of_part}

-- ---- What is found where pieces were put back.
module _ (hashing : Hashing) (view : ViewValue) where
  keys-put_back : (e : ℕ × Piece) (pieces : List (ℕ × Piece)) → keys_of (with_staying hashing view pieces e) ≡ keys_of pieces
  keys-put_back e pieces = by (lookup (is_at (nat_cmp e.0)) pieces)
    where
      by : (o : Option Piece) → keys_of (put_back hashing view e o pieces) ≡ keys_of pieces
      by None = refl
      by (Some made) = keys-set_value (is_at (nat_cmp e.0)) pieces (staying hashing view e made)

  keys-all_back : (es pieces : List (ℕ × Piece)) → keys_of (fold (with_staying hashing view) pieces es) ≡ keys_of pieces
  keys-all_back [] pieces = refl
  keys-all_back (e ∷ es) pieces = keys-all_back es (with_staying hashing view pieces e) ∙ keys-put_back e pieces

  -- what is found where one was put back
  abbrev back_at : Option Piece → Option Piece → Option Piece
  back_at None there = there
  back_at (Some piece) None = None
  back_at (Some piece) (Some there) = Some (staying hashing view (0, piece) there)

  set_at : (k : ℕ) (pieces : List (ℕ × Piece)) (old new : Piece) → lookup (is_at (nat_cmp k)) pieces ≡ Some old
      → lookup (is_at (nat_cmp k)) (set_value (is_at (nat_cmp k)) pieces new) ≡ Some new
  set_at k [] old new found = absurd (let no : None ≡ Some old = found in cc)
  set_at k (p ∷ pieces) old new found = by (is_at (nat_cmp k) p.0) refl found (set_at k pieces old new)
    where
      by : (b : Bool) → is_at (nat_cmp k) p.0 ≡ b → cond b (Some p.1) (lookup (is_at (nat_cmp k)) pieces) ≡ Some old
          → (lookup (is_at (nat_cmp k)) pieces ≡ Some old
          → lookup (is_at (nat_cmp k)) (set_value (is_at (nat_cmp k)) pieces new) ≡ Some new)
          → lookup (is_at (nat_cmp k)) (cond b ((p.0, new) ∷ pieces) (p ∷ set_value (is_at (nat_cmp k)) pieces new)) ≡ Some new
      by true here found rest = ap (λ b. cond b (Some new) (lookup (is_at (nat_cmp k)) pieces)) here
      by false here found rest =
          ap (λ b. cond b (Some p.1) (lookup (is_at (nat_cmp k)) (set_value (is_at (nat_cmp k)) pieces new))) here ∙ rest found

  set_apart : (j k : ℕ) → ((key : ℕ) → is_at (nat_cmp j) key ≡ true → is_at (nat_cmp k) key ≡ false)
      → (pieces : List (ℕ × Piece)) (new : Piece)
      → lookup (is_at (nat_cmp k)) (set_value (is_at (nat_cmp j)) pieces new) ≡ lookup (is_at (nat_cmp k)) pieces
  set_apart j k apart [] new = refl
  set_apart j k apart (p ∷ pieces) new = by (is_at (nat_cmp j) p.0) refl (set_apart j k apart pieces new)
    where
      by : (b : Bool) → is_at (nat_cmp j) p.0 ≡ b → lookup (is_at (nat_cmp k)) (set_value (is_at (nat_cmp j)) pieces new) ≡ lookup
          (is_at (nat_cmp k)) pieces
          → lookup (is_at (nat_cmp k)) (cond b ((p.0, new) ∷ pieces) (p ∷ set_value (is_at (nat_cmp j)) pieces new)) ≡ cond
          (is_at (nat_cmp k) p.0) (Some p.1) (lookup (is_at (nat_cmp k)) pieces)
      by true here rest =
          ap (λ b. cond b (Some new) (lookup (is_at (nat_cmp k)) pieces)) (apart p.0 here)
          ∙ sym (ap (λ b. cond b (Some p.1) (lookup (is_at (nat_cmp k)) pieces)) (apart p.0 here))
      by false here rest = ap (λ o. cond (is_at (nat_cmp k) p.0) (Some p.1) o) rest

  key_is : (k key : ℕ) → is_at (nat_cmp k) key ≡ true → k ≡ key
  key_is k key at = exact_unsigned k key (Equal-from (nat_cmp k key) at)

  found_back : (k : ℕ) (e : ℕ × Piece) (pieces : List (ℕ × Piece))
      → lookup (is_at (nat_cmp k)) (with_staying hashing view pieces e) ≡ cond (is_at (nat_cmp k) e.0)
      (back_at (Some e.1) (lookup (is_at (nat_cmp k)) pieces)) (lookup (is_at (nat_cmp k)) pieces)
  found_back k e pieces = by (is_at (nat_cmp k) e.0) refl
    where
      here : (o : Option Piece) → lookup (is_at (nat_cmp e.0)) pieces ≡ o
          → lookup (is_at (nat_cmp e.0)) (put_back hashing view e o pieces) ≡ back_at (Some e.1) o
      here None is = is
      here (Some there) is = set_at e.0 pieces there (staying hashing view e there) is

      aside : (is_at (nat_cmp k) e.0 ≡ false) → (o : Option Piece)
          → lookup (is_at (nat_cmp k)) (put_back hashing view e o pieces) ≡ lookup (is_at (nat_cmp k)) pieces
      aside other None = refl
      aside other (Some there) =
          set_apart e.0 k (λ key at. ap (is_at (nat_cmp k)) (sym (key_is e.0 key at)) ∙ other) pieces (staying hashing view e there)

      by : (b : Bool) → is_at (nat_cmp k) e.0 ≡ b
          → lookup (is_at (nat_cmp k)) (with_staying hashing view pieces e) ≡ cond b
          (back_at (Some e.1) (lookup (is_at (nat_cmp k)) pieces)) (lookup (is_at (nat_cmp k)) pieces)
      by true at =
          subst (λ n. lookup (is_at (nat_cmp n)) (with_staying hashing view pieces e) ≡ back_at (Some e.1)
          (lookup (is_at (nat_cmp n)) pieces)) (sym (key_is k e.0 at))
          (here (lookup (is_at (nat_cmp e.0)) pieces) refl)
      by false at = aside at (lookup (is_at (nat_cmp e.0)) pieces)

  pub found_all_back : (k : ℕ) (es pieces : List (ℕ × Piece)) → IsStrictlySortedBy nat_cmp (keys_of es)
      → lookup (is_at (nat_cmp k)) (fold (with_staying hashing view) pieces es) ≡ back_at (lookup (is_at (nat_cmp k)) es)
      (lookup (is_at (nat_cmp k)) pieces)
  found_all_back k [] pieces s = refl
  found_all_back k (e ∷ es) pieces s =
      found_all_back k es (with_staying hashing view pieces e) (sorted_tail nat_cmp e.0 (keys_of es) s)
      ∙ ap (back_at (lookup (is_at (nat_cmp k)) es)) (found_back k e pieces)
      ∙ by (is_at (nat_cmp k) e.0) refl
    where
      by : (b : Bool) → is_at (nat_cmp k) e.0 ≡ b
          → back_at (lookup (is_at (nat_cmp k)) es) (cond b (back_at (Some e.1) (lookup (is_at (nat_cmp k)) pieces))
          (lookup (is_at (nat_cmp k)) pieces))
          ≡ back_at (cond b (Some e.1) (lookup (is_at (nat_cmp k)) es)) (lookup (is_at (nat_cmp k)) pieces)
      by true at =
          ap (λ o. back_at o (back_at (Some e.1) (lookup (is_at (nat_cmp k)) pieces)))
          (lookup-none (is_at (nat_cmp k)) es (none_past_head (eq_by_cmp_equiv nat_cmp_total) k e es
          (IsDistinct-from_sorted nat_cmp (keys_of (e ∷ es)) s) at))
      by false at = refl

-- ---- What is found of pieces made of arcs.
module _ (k : ℕ) (q : RingArc → Bool) (f g : RingArc → Piece) (h : Option Piece → Option Piece) (none : h None ≡ None)
    (each : (arc : RingArc) → k ≡ arc.range.start → h (Some (f arc)) ≡ Some (g arc)) where
  found_made : (arcs : List RingArc) → h (lookup (is_at (nat_cmp k)) (made f q arcs)) ≡ lookup (is_at (nat_cmp k)) (made g q arcs)
  found_made [] = none
  found_made (arc ∷ arcs) = by (q arc) (found_made arcs)
    where
      at : (b : Bool) → is_at (nat_cmp k) arc.range.start ≡ b
          → h (lookup (is_at (nat_cmp k)) (made f q arcs)) ≡ lookup (is_at (nat_cmp k)) (made g q arcs)
          → h (cond b (Some (f arc)) (lookup (is_at (nat_cmp k)) (made f q arcs))) ≡ cond b (Some (g arc))
          (lookup (is_at (nat_cmp k)) (made g q arcs))
      at true is rest = each arc (exact_unsigned k arc.range.start (Equal-from (nat_cmp k arc.range.start) is))
      at false is rest = rest

      by : (b : Bool) → h (lookup (is_at (nat_cmp k)) (made f q arcs)) ≡ lookup (is_at (nat_cmp k)) (made g q arcs)
          → h (lookup (is_at (nat_cmp k)) (map (λ arc. (arc.range.start, f arc)) (cond b (arc ∷ filter q arcs) (filter q arcs))))
          ≡ lookup (is_at (nat_cmp k)) (map (λ arc. (arc.range.start, g arc)) (cond b (arc ∷ filter q arcs) (filter q arcs)))
      by true rest = at (is_at (nat_cmp k) arc.range.start) refl rest
      by false rest = rest

-- ---- A piece that stays is the piece of its arc.
abbrev piece_with_all : Range → PieceState → Table → Piece
piece_with_all range state entries = record { range = range; state = state; entries = entries }

module _ (next : Bool) (hashing : Hashing) (view : ViewValue) (silo : Silo) (pieces : List (ℕ × Piece)) (are : ArePieces pieces)
    (tidy : are_tidy hashing pieces ≡ true) where
  abbrev after_of : RingArc → Piece
  after_of arc = piece_of next hashing view silo pieces arc

  abbrev bare : RingArc → Piece
  bare arc = piece_with_all arc.range Settled []

  module _ (arc : RingArc) (piece : Piece) (found : lookup (is_at (nat_cmp arc.range.start)) pieces ≡ Some piece)
      (settled : is_settled piece.state ≡ true) (fits : arc.range.size ≤ piece.range.size) where
    begins : piece.range.start ≡ arc.range.start
    begins = at_lookup (λ e. e.1.range.start ≡ e.0) pieces are.under_start arc.range.start piece found

    piece_ok : IsRange piece.range
    piece_ok = at_lookup (λ e. IsRange e.1.range) pieces are.ranges arc.range.start piece found

    arc_ok : IsRange arc.range
    arc_ok =
        record {
          start_below = subst (λ k. k < circle) begins piece_ok.start_below;
          size_within = omega (arith, fits, piece_ok.size_within);
        }

    -- the piece has each hash of the arc
    inside : (hash : ℕ) → hash < circle → holds arc.range hash ≡ true → holds piece.range hash ≡ true
    inside hash below held =
        let less : distance arc.range.start hash < arc.range.size = below-holds arc.range hash held in
        holds-below piece.range hash (subst (λ k. distance k hash < piece.range.size) (sym begins) (omega (arith, less, fits)))

    was : was_settled pieces arc.range ≡ true
    was = (Decides-was_settled pieces are arc.range arc_ok).1
        (λ hash below held. lies_by pieces hash piece.range (record {
          piece = piece;
          there = ap (λ k. lookup (is_at (nat_cmp k)) pieces) begins ∙ found;
          settled = settled;
          range_is = refl;
          has = inside hash below held;
        }))

    left_is : left_of hashing view arc.range piece ≡ after_of arc
    left_is =
        ap (piece_with_all arc.range Settled) (kept_of_part hashing view pieces are tidy arc.range arc.range.start piece found inside)
        ∙ sym (ap (λ b. cond b (piece_with_all arc.range Settled (kept_entries hashing view pieces arc.range))
        (piece_with_all arc.range (missing_state next view silo arc.from) [])) was)

  at_arc : (arc : RingArc) → back_at hashing view (lookup (is_at (nat_cmp arc.range.start)) pieces)
      (Some (piece_made true next hashing view silo pieces arc)) ≡ Some (after_of arc)
  at_arc arc = by (lookup (is_at (nat_cmp arc.range.start)) pieces) refl
    where
      stayed : (piece : Piece) → lookup (is_at (nat_cmp arc.range.start)) pieces ≡ Some piece → (b : Bool) → covers arc.range piece ≡ b
          → staying hashing view (0, piece) (cond b (bare arc) (after_of arc)) ≡ after_of arc
      stayed piece found true is =
          let so = both (is_settled piece.state) (nat_le arc.range.size piece.range.size) is in
          ap (λ b. cond b (left_of hashing view arc.range piece) (bare arc)) is
          ∙ left_is arc piece found so.0 (leb-true arc.range.size piece.range.size so.1)
      stayed piece found false is =
          ap (λ b. cond b (left_of hashing view (after_of arc).range piece) (after_of arc))
          (ap (λ r. covers r piece) (piece_range next hashing view silo pieces arc) ∙ is)

      by : (o : Option Piece) → lookup (is_at (nat_cmp arc.range.start)) pieces ≡ o
          → back_at hashing view o (Some (cond (stays_as arc.range o) (bare arc) (after_of arc))) ≡ Some (after_of arc)
      by None found = refl
      by (Some piece) found = ap (λ p. Some p) (stayed piece found (covers arc.range piece) refl)

  -- so the pieces that stay, put back, make the pieces after
  pub stayed_are_after : (arcs : List RingArc) → AreApart arcs
      → fold (with_staying hashing view) (pieces_made true next hashing view silo pieces arcs) pieces ≡ pieces_after next hashing view silo
      pieces arcs
  stayed_are_after arcs apart =
      same_entries nat_cmp_total exact_unsigned (fold (with_staying hashing view) (pieces_made true next hashing view silo pieces arcs)
      pieces) (pieces_after next hashing view silo pieces arcs)
      (subst (λ keys. IsStrictlySortedBy nat_cmp keys)
      (sym (keys-all_back hashing view pieces (pieces_made true next hashing view silo pieces arcs)))
      (sorted_made (piece_made true next hashing view silo pieces) (λ arc. is_owner silo arc.to) arcs apart.in_order))
      (sorted_made after_of (λ arc. is_owner silo arc.to) arcs apart.in_order)
      (λ k.
      found_all_back hashing view k pieces (pieces_made true next hashing view silo pieces arcs) are.in_order
      ∙ found_made k (λ arc. is_owner silo arc.to) (piece_made true next hashing view silo pieces) after_of
      (back_at hashing view (lookup (is_at (nat_cmp k)) pieces))
      (nothing (lookup (is_at (nat_cmp k)) pieces))
      (λ arc key. subst (λ n. back_at hashing view (lookup (is_at (nat_cmp n)) pieces)
      (Some (piece_made true next hashing view silo pieces arc)) ≡ Some (after_of arc)) (sym key) (at_arc arc))
      arcs)
    where
      nothing : (o : Option Piece) → back_at hashing view o None ≡ None
      nothing None = refl
      nothing (Some piece) = refl
