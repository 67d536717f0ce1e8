-- Pieces made of the arcs between two rings, each with its arc's range, of those arcs that pass a test.
use Rattle.std.proofs.Common.{arith, ◌≡◌, refl, sym, ap, ◌∙◌, subst, ℕ, suc, List, [], ◌∷◌, ◌+◌, ◌<◌, ◌≤◌}
use Rattle.std.specs.Prelude.{Bool, true, false, cond, All, AllPairs, count_by, map, filter}
use Rattle.std.specs.List.{AllByRecursion, slice_index_or}
use Rattle.std.specs.List.Sorted.{IsStrictlySortedBy}
use Rattle.std.specs.Map.{keys_of}
use Rattle.std.specs.Ordering.{nat_cmp}
use Rattle.std.specs.declared.cmp.Ordering.TheVariants.{Less}
use Rattle.std.proofs.lemmas.List.Elements.{All-head, All-tail, All-map, All-filter}
use Rattle.std.proofs.lemmas.List.Sums.{sum_by-cons}
use Rattle.texts.proofs.Orderings.{less_is}
use Rattle.ring_range.specs.Range.{Range, IsRange, holds}
use Rattle.range_moves.specs.declared.RingArc.{RingArc}
use Rattle.directory_rules.specs.State.{Piece}
use Rattle.grain_partition.specs.Holdings.{ArePieces}
use Rattle.grain_partition.specs.Sight.{AreApart}
use Rattle.grain_partition.proofs.OnePiece.{passing}

abbrev Rising : List RingArc → Type 0
Rising arcs = AllPairs (λ arc later. arc.range.start < later.range.start) arcs

rising_head : (arc : RingArc) (arcs : List RingArc) → Rising (arc ∷ arcs) → All (λ later. arc.range.start < later.range.start) arcs
rising_head arc arcs rise = λ k d lt. rise 0 (suc k) d (omega arith) (omega arith)

rising_tail : (arc : RingArc) (arcs : List RingArc) → Rising (arc ∷ arcs) → Rising arcs
rising_tail arc arcs rise = λ i j d lt within. rise (suc i) (suc j) d (omega arith) (omega arith)

module _ (f : RingArc → Piece) (q : RingArc → Bool) where
  abbrev pub made : List RingArc → List (ℕ × Piece)
  made arcs = map (λ arc. (arc.range.start, f arc)) (filter q arcs)

  all_above : (start : ℕ) (arcs : List RingArc) → All (λ later. start < later.range.start) arcs
      → AllByRecursion (λ key. nat_cmp start key ≡ Less) (keys_of (made arcs))
  all_above start [] above = tt
  all_above start (arc ∷ arcs) above =
      by (q arc) (all_above start arcs (All-tail (λ (later : RingArc). start < later.range.start) arc arcs above))
    where
      by : (b : Bool) → AllByRecursion (λ key. nat_cmp start key ≡ Less) (keys_of (made arcs))
          → AllByRecursion (λ key. nat_cmp start key ≡ Less)
          (keys_of (map (λ arc. (arc.range.start, f arc)) (cond b (arc ∷ filter q arcs) (filter q arcs))))
      by true rest = (less_is start arc.range.start (All-head (λ (later : RingArc). start < later.range.start) arc arcs above), rest)
      by false rest = rest

  -- they stand by start
  pub sorted_made : (arcs : List RingArc) → Rising arcs → IsStrictlySortedBy nat_cmp (keys_of (made arcs))
  unfolding IsStrictlySortedBy
  sorted_made [] rise = tt
  sorted_made (arc ∷ arcs) rise = by (q arc) (sorted_made arcs (rising_tail arc arcs rise))
    where
      by : (b : Bool) → IsStrictlySortedBy nat_cmp (keys_of (made arcs))
          → IsStrictlySortedBy nat_cmp (keys_of (map (λ arc. (arc.range.start, f arc)) (cond b (arc ∷ filter q arcs) (filter q arcs))))
      by true rest = (all_above arc.range.start arcs (rising_head arc arcs rise), rest)
      by false rest = rest

  module _ (same : (arc : RingArc) → (f arc).range ≡ arc.range) where
    all_made : (P : ℕ → Range → Type 0) (arcs : List RingArc) → All (λ arc. P arc.range.start arc.range) arcs
        → All (λ e. P e.0 e.1.range) (made arcs)
    all_made P arcs all =
        All-map (λ (e : ℕ × Piece). P e.0 e.1.range) (λ (arc : RingArc). (arc.range.start, f arc)) (filter q arcs)
        (λ k d lt. subst (P (slice_index_or (filter q arcs) k d).range.start) (sym (same (slice_index_or (filter q arcs) k d)))
        (All-filter q (λ arc. P arc.range.start arc.range) arcs all k d lt))

    count_made : (hash : ℕ) (arcs : List RingArc) → passing (λ p. holds p.range hash) (made arcs) ≤ count_by (λ arc. holds arc.range hash)
        arcs
    count_made hash [] = omega arith
    count_made hash (arc ∷ arcs) = by (q arc) (count_made hash arcs)
      where
        counted : count_by (λ arc. holds arc.range hash) (arc ∷ arcs) ≡ cond (holds arc.range hash) 1 0 + count_by
            (λ arc. holds arc.range hash) arcs
        counted = sum_by-cons (λ (arc : RingArc). cond (holds arc.range hash) 1 0) arc arcs

        by : (b : Bool) → passing (λ p. holds p.range hash) (made arcs) ≤ count_by (λ arc. holds arc.range hash) arcs
            → passing (λ p. holds p.range hash) (map (λ arc. (arc.range.start, f arc)) (cond b (arc ∷ filter q arcs) (filter q arcs))) ≤
            count_by (λ arc. holds arc.range hash) (arc ∷ arcs)
        by true rest =
            let one = sum_by-cons (λ (e : ℕ × Piece). cond (holds e.1.range hash) 1 0) (arc.range.start, f arc) (made arcs)
            ∙ ap (λ r. cond (holds r hash) 1 0 + passing (λ p. holds p.range hash) (made arcs)) (same arc) in
            omega (arith, one, counted)
        by false rest = omega (arith, counted)

    pub pieces-made : (arcs : List RingArc) → AreApart arcs → ArePieces (made arcs)
    pieces-made arcs apart = record {
      in_order = sorted_made arcs apart.in_order;
      under_start = all_made (λ start range. range.start ≡ start) arcs (λ k d lt. refl);
      ranges = all_made (λ start range. IsRange range) arcs apart.ranges;
      present = all_made (λ start range. 0 < range.size) arcs apart.present;
      once = λ hash below. omega (arith, count_made hash arcs, apart.once hash below);
    }
