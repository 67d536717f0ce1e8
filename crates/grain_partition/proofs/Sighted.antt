-- The pieces after a sight.
use Rattle.std.proofs.Common.{◌≡◌, refl, sym, ap, ◌∙◌, subst, ℕ, List, [], ◌∷◌, ◌++◌, length, ◌+◌, ◌<◌, drop, get_or, append_assoc, add-one, drop-cons}
use Rattle.std.specs.Prelude.{Bool, true, cond, ◌&&◌, map, filter}
use Rattle.std.specs.List.Sorted.{IsStrictlySortedBy}
use Rattle.std.specs.Map.{keys_of}
use Rattle.std.specs.BTreeMap.{insert_entry}
use Rattle.std.specs.Ordering.{nat_cmp}
use Rattle.std.proofs.lemmas.Cmp.{nat_cmp_total}
use Rattle.silo_address.specs.Silo.{Silo}
use Rattle.membership_view.specs.View.{ViewValue}
use Rattle.hash_ring.specs.declared.Hashing.{Hashing}
use Rattle.range_moves.specs.declared.RingArc.{RingArc}
use Rattle.directory_rules.specs.State.{Piece}
use Rattle.directory_rules.specs.Sight.{is_owner, piece_of, pieces_after}
use Rattle.directory_rules.specs.declared.PieceState.TheVariants.{Settled}
use Rattle.directory_rules.proofs.Cases.{on_bool}
use Rattle.directory_rules.proofs.Pieces.{piece_range}
use Rattle.grain_partition.specs.Holdings.{ArePieces}
use Rattle.grain_partition.specs.Sight.{AreApart}
use Rattle.grain_partition.specs.Kept.{piece_made, stays}
use Rattle.grain_partition.proofs.FromArcs.{made, pieces-made, sorted_made}
use Rattle.grain_partition.proofs.AtTheEnd.{insert_entry-end}

-- what pieces keep
pub pieces-after : (next : Bool) (hashing : Hashing) (view : ViewValue) (silo : Silo) (pieces : List (ℕ × Piece)) (arcs : List RingArc)
    → AreApart arcs
    → ArePieces (pieces_after next hashing view silo pieces arcs)
pieces-after next hashing view silo pieces arcs apart =
    pieces-made (piece_of next hashing view silo pieces) (λ arc. is_owner silo arc.to) (piece_range next hashing view silo pieces) arcs
    apart

-- the range of a piece that is made
pub made_range : (tidy next : Bool) (hashing : Hashing) (view : ViewValue) (silo : Silo) (pieces : List (ℕ × Piece)) (arc : RingArc)
    → (piece_made tidy next hashing view silo pieces arc).range ≡ arc.range
made_range tidy next hashing view silo pieces arc =
    on_bool (λ b. (cond {A = Piece} b (record { range = arc.range; state = Settled; entries = [] })
    (piece_of next hashing view silo pieces arc)).range ≡ arc.range)
    (tidy && stays pieces arc.range) (λ t. refl) (λ f. piece_range next hashing view silo pieces arc)

-- ---- Pieces made of arcs, one after another.
module _ (f : RingArc → Piece) (q : RingArc → Bool) (same : (arc : RingArc) → (f arc).range ≡ arc.range) where
  abbrev entry_of : RingArc → ℕ × Piece
  entry_of arc = (arc.range.start, f arc)

  owned_first : (arc : RingArc) (rest : List RingArc) → q arc ≡ true → made f q (arc ∷ rest) ≡ entry_of arc ∷ made f q rest
  owned_first arc rest owned = ap (λ b. map entry_of (cond b (arc ∷ filter q rest) (filter q rest))) owned

  module _ (arcs : List RingArc) (apart : AreApart arcs) (i : ℕ) (arc : RingArc) (below : i < length arcs) (item : arc ≡ get_or arcs i arc)
      (owned : q arc ≡ true)
      (front : List (ℕ × Piece)) (so_far : front ++ made f q (drop i arcs) ≡ made f q arcs) where
    whole : front ++ entry_of arc ∷ made f q (drop (i + 1) arcs) ≡ made f q arcs
    whole =
        ap (λ l. front ++ l) (sym (ap (made f q) next_arc ∙ owned_first arc (drop (i + 1) arcs) owned)) ∙ so_far
      where
        next_arc : drop i arcs ≡ arc ∷ drop (i + 1) arcs
        next_arc = drop-cons arcs i arc below ∙ (λ j. sym item j ∷ drop (sym (add-one i) j) arcs)

    -- one more piece
    pub one_more : (piece : Piece) → piece ≡ f arc → (new : List (ℕ × Piece)) → new ≡ insert_entry nat_cmp front piece.range.start piece
        → new ++ made f q (drop (i + 1) arcs) ≡ made f q arcs
    one_more piece is new put =
        let sorted : IsStrictlySortedBy nat_cmp (keys_of (front ++ entry_of arc ∷ made f q (drop (i + 1) arcs))) =
        subst (λ l. IsStrictlySortedBy nat_cmp (keys_of l)) (sym whole) (sorted_made f q arcs apart.in_order) in
        let last : new ≡ front ++ entry_of arc ∷ [] =
        put ∙ ap (λ (p : Piece). insert_entry nat_cmp front p.range.start p) is
        ∙ ap (λ r. insert_entry nat_cmp front r.start (f arc)) (same arc)
        ∙ insert_entry-end nat_cmp_total front arc.range.start (f arc) (f arc) (made f q (drop (i + 1) arcs)) sorted in
        ap (λ l. l ++ made f q (drop (i + 1) arcs)) last ∙ append_assoc front (entry_of arc ∷ []) (made f q (drop (i + 1) arcs)) ∙ whole
