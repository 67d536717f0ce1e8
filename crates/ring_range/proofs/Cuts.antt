-- What the parts of a cut range are.
use Rattle.std.proofs.Common.{◌≡◌, ℕ, ◌+◌, ◌-◌, ◌<◌, ◌≤◌, ◌&&◌, ◌⊎◌, ◌==◌, get_or, nat_lt, nat_le, Bool, true, false, cond, List, [], ◌∷◌, count_by, All, Contains, refl, sym, ◌∙◌, ap, subst, add-zero, arith, Fits, w32, inl, inr}
use Rattle.std.proofs.lemmas.Bool.{cases_lt}
use Rattle.std.proofs.lemmas.Bool.Decides.{nat_tests}
use Rattle.std.proofs.lemmas.List.{get_or_default}
use Rattle.std.proofs.lemmas.List.Elements.{All-nil, All-cons}
use Rattle.std.proofs.lemmas.List.Sums.{sum_by-cons}
use Rattle.ring_range.specs.Range.{circle, Range, IsRange, holds, distance, ahead, part_of}
use Rattle.ring_range.specs.Cut.{cut_steps, cut_parts, parts_between, FollowOn, IsInside, IsCut}
use Rattle.ring_range.proofs.Parts.{IsRange-part, holds-part, size-part, start-part}
use Rattle.ring_range.proofs.Steps.{Rises, Rises-below, Rises-cut_steps, In, In-above, In-cut_steps, Each, Each-weaker, Each-cut_steps}

count_cons : (p : Range → Bool) (part : Range) (parts : List Range) → count_by p (part ∷ parts) ≡ cond (p part) 1 0 + count_by p parts
count_cons p part parts = sum_by-cons (λ x. cond (p x) 1 0) part parts

joined : (from to size steps : ℕ) → from < to → to < size
    → cond (nat_le from steps && nat_lt steps to) 1 0 + cond (nat_le to steps && nat_lt steps size) 1 0 ≡ cond
    (nat_le from steps && nat_lt steps size) 1 0
joined from to size steps lt below = grind (arith, nat_tests)

ahead-on : (place from to : ℕ) → place < circle → from < to → to < circle → ahead (ahead place from) (to - from) ≡ ahead place to
ahead-on place from to p lt below = grind (arith, nat_tests)

ahead-none : (place : ℕ) → place < circle → ahead place 0 ≡ place
ahead-none place p = grind (arith, nat_tests)

outside : (start from to place : ℕ) → start < circle → from < to → to ≤ circle → place < circle → (distance start place ≤ from)
    ⊎ (to ≤ distance start place) → 0 < distance (ahead start from) place → distance (ahead start from) place < to - from → ⊥
outside start from to place s lt below p out up short = grind (arith, nat_tests)

by_size : (P : List Range → Type 0) (none : Bool) (a b : List Range) → (none ≡ true → P a) → (none ≡ false → P b) → P (cond none a b)
by_size P true a b p q = p refl
by_size P false a b p q = q refl

size_none : (size : ℕ) → (size == 0) ≡ true → size ≡ 0
size_none size e = grind (arith, nat_tests)

size_some : (size : ℕ) → (size == 0) ≡ false → 0 < size
size_some size e = grind (arith, nat_tests)

from_start : (steps size : ℕ) → ◌≡◌ {A = ℕ} (cond (nat_le 0 steps && nat_lt steps size) 1 0) (cond (nat_lt steps size) 1 0)
from_start steps size = grind (arith, nat_tests)

module _ (range : Range) (ok : IsRange range) where
  -- a hash from `from` steps on is in one of the parts from there on
  count_parts : (hash from : ℕ) (steps : List ℕ) → hash < circle → Rises from steps range.size
      → count_by (λ part. holds part hash) (parts_between range from steps) ≡ cond
      (nat_le from (distance range.start hash) && nat_lt (distance range.start hash) range.size) 1 0
  count_parts hash from [] h r =
      count_cons (λ part. holds part hash) (part_of range from range.size) []
      ∙ add-zero (cond (holds (part_of range from range.size) hash) 1 0)
      ∙ ap (λ b. cond b 1 0) (holds-part range from range.size hash ok (omega arith) h)
  count_parts hash from (to ∷ steps) h r =
      let below : to < range.size = Rises-below to steps range.size r.1 in
      count_cons (λ part. holds part hash) (part_of range from to) (parts_between range to steps)
      ∙ ap (λ n. n + count_by (λ part. holds part hash) (parts_between range to steps))
      (ap (λ b. cond b 1 0) (holds-part range from to hash ok (omega arith) h))
      ∙ ap (λ n. cond (nat_le from (distance range.start hash) && nat_lt (distance range.start hash) to) 1 0 + n)
      (count_parts hash to steps h r.1)
      ∙ joined from to range.size (distance range.start hash) r.0 below

  part_present : (from to : ℕ) → from < to → 0 < (part_of range from to).size
  part_present from to lt = omega (arith, size-part range from to)

  parts_present : (from : ℕ) (steps : List ℕ) → Rises from steps range.size → All (λ part. 0 < part.size) (parts_between range from steps)
  parts_present from [] r =
      All-cons (λ (part : Range). 0 < part.size) (part_of range from range.size) [] (part_present from range.size r)
      (All-nil (λ (part : Range). 0 < part.size))
  parts_present from (to ∷ steps) r =
      All-cons (λ (part : Range). 0 < part.size) (part_of range from to) (parts_between range to steps) (part_present from to r.0)
      (parts_present to steps r.1)

  parts_ranges : (from : ℕ) (steps : List ℕ) → Rises from steps range.size → All IsRange (parts_between range from steps)
  parts_ranges from [] r =
      All-cons IsRange (part_of range from range.size) [] (IsRange-part range from range.size ok (omega arith)) (All-nil IsRange)
  parts_ranges from (to ∷ steps) r =
      let below : to < range.size = Rises-below to steps range.size r.1 in
      All-cons IsRange (part_of range from to) (parts_between range to steps) (IsRange-part range from to ok (omega arith))
      (parts_ranges to steps r.1)

  -- where one part ends the next begins
  part_end : (from to : ℕ) → from < to → to < circle
      → ahead (part_of range from to).start (part_of range from to).size ≡ ahead range.start to
  part_end from to lt below =
      ap (λ place. ahead place (part_of range from to).size) (start-part range from to lt)
      ∙ ap (ahead (ahead range.start from)) (size-part range from to)
      ∙ ahead-on range.start from to ok.start_below lt below

  parts_follow : (from : ℕ) (steps : List ℕ) → Rises from steps range.size
      → FollowOn (ahead range.start from) (parts_between range from steps)
  parts_follow from [] r = (start-part range from range.size r, tt)
  parts_follow from (to ∷ steps) r =
      let below : to < range.size = Rises-below to steps range.size r.1 in (
        start-part range from to r.0,
        subst (λ place. FollowOn place (parts_between range to steps))
            (sym (part_end from to r.0 (omega (arith, ok.size_within)))) (parts_follow to steps r.1),
      )

  -- each part begins where a step leads
  parts_begin : (P : ℕ → Type 0) (from : ℕ) (steps : List ℕ) → Rises from steps range.size → P (ahead range.start from)
      → Each (λ step. P (ahead range.start step)) steps → All (λ part. P part.start) (parts_between range from steps)
  parts_begin P from [] r here each =
      All-cons (λ (part : Range). P part.start) (part_of range from range.size) [] (subst P (sym (start-part range from range.size r)) here)
      (All-nil (λ (part : Range). P part.start))
  parts_begin P from (to ∷ steps) r here each =
      All-cons (λ (part : Range). P part.start) (part_of range from to) (parts_between range to steps)
      (subst P (sym (start-part range from to r.0)) here) (parts_begin P to steps r.1 each.0 each.1)

  -- a place that isn't between the ends of a part isn't inside
  not_inside : (from to place : ℕ) → from < to → to ≤ range.size → place < circle → (distance range.start place ≤ from)
      ⊎ (to ≤ distance range.start place) → ¬ (IsInside (part_of range from to) place)
  not_inside from to place lt within p out inside =
      let start = start-part range from to lt in
      let up : 0 < distance (ahead range.start from) place = subst (λ s. 0 < distance s place) start inside.0 in
      let short : distance (ahead range.start from) place < to - from = subst (λ n. distance (ahead range.start from) place < n) (size-part range from to) (subst (λ s. distance s place < (part_of range from to).size) start inside.1) in
      outside range.start from to place ok.start_below lt (omega (arith, ok.size_within)) p out up short

  -- the place comes before the parts, or is a step between two, or comes behind
  abbrev IsClear : ℕ → ℕ → List ℕ → Type 0
  IsClear steps from cuts = (steps ≤ from) ⊎ (In steps cuts ⊎ (range.size ≤ steps))

  clear_of_first : (steps from to : ℕ) (cuts : List ℕ) → Rises from (to ∷ cuts) range.size → IsClear steps from (to ∷ cuts) → (steps ≤ from)
      ⊎ (to ≤ steps)
  clear_of_first steps from to cuts r (inl before) = inl before
  clear_of_first steps from to cuts r (inr (inl (inl same))) = inr (omega arith)
  clear_of_first steps from to cuts r (inr (inl (inr later))) =
      inr (let lt : to < steps = In-above to cuts range.size steps r.1 later in omega arith)
  clear_of_first steps from to cuts r (inr (inr behind)) =
      inr (let below : to < range.size = Rises-below to cuts range.size r.1 in omega arith)

  clear_of_rest : (steps from to : ℕ) (cuts : List ℕ) → Rises from (to ∷ cuts) range.size → IsClear steps from (to ∷ cuts)
      → IsClear steps to cuts
  clear_of_rest steps from to cuts r (inl before) = inl (let lt = r.0 in omega arith)
  clear_of_rest steps from to cuts r (inr (inl (inl same))) = inl (omega arith)
  clear_of_rest steps from to cuts r (inr (inl (inr later))) = inr (inl later)
  clear_of_rest steps from to cuts r (inr (inr behind)) = inr (inr behind)

  clear_of_last : (steps from : ℕ) → IsClear steps from [] → (steps ≤ from) ⊎ (range.size ≤ steps)
  clear_of_last steps from (inl before) = inl before
  clear_of_last steps from (inr (inl none)) = absurd none
  clear_of_last steps from (inr (inr behind)) = inr behind

  parts_uncut : (place from : ℕ) (cuts : List ℕ) → place < circle → Rises from cuts range.size
      → IsClear (distance range.start place) from cuts → All (λ part. ¬ (IsInside part place)) (parts_between range from cuts)
  parts_uncut place from [] p r clear =
      All-cons (λ (part : Range). ¬ (IsInside part place)) (part_of range from range.size) []
      (not_inside from range.size place r (omega arith) p (clear_of_last (distance range.start place) from clear))
      (All-nil (λ (part : Range). ¬ (IsInside part place)))
  parts_uncut place from (to ∷ cuts) p r clear =
      let below : to < range.size = Rises-below to cuts range.size r.1 in
      All-cons (λ (part : Range). ¬ (IsInside part place)) (part_of range from to) (parts_between range to cuts)
      (not_inside from to place r.0 (omega arith) p (clear_of_first (distance range.start place) from to cuts r clear))
      (parts_uncut place to cuts p r.1 (clear_of_rest (distance range.start place) from to cuts r clear))

  -- a place of the list comes at the start, at a step, or behind
  clear_at : (cuts : List ℕ) (place : ℕ) → (0 < distance range.start place → distance range.start place < range.size
      → In (distance range.start place) cuts) → IsClear (distance range.start place) 0 cuts
  clear_at cuts place h =
      elim (cases_lt 0 (distance range.start place)) [
        | inl up ↦ elim (cases_lt (distance range.start place) range.size)
            [ inl below ↦ inr (inl (h up below)) | inr behind ↦ inr (inr behind) ]
        | inr none ↦ inl none
      ]

  some_is_cut : (places : List ℕ) → 0 < range.size → All (λ place. place < circle) places
      → IsCut range places (parts_between range 0 (cut_steps range places))
  some_is_cut places some below =
      let r : Rises 0 (cut_steps range places) range.size = Rises-cut_steps range places some in
      let begin : ahead range.start 0 ≡ range.start = ahead-none range.start ok.start_below in
      record {
        once = λ hash h. count_parts hash 0 (cut_steps range places) h r ∙ from_start (distance range.start hash) range.size;
        present = parts_present 0 (cut_steps range places) r;
        in_order =
            subst (λ place. FollowOn place (parts_between range 0 (cut_steps range places))) begin
            (parts_follow 0 (cut_steps range places) r);
        begins = parts_begin (λ place. (place ≡ range.start) ⊎ Contains places place) 0 (cut_steps range places) r (inl begin)
            (Each-weaker (λ step. Contains places (ahead range.start step)) _ (λ step h. inr h) (cut_steps range places)
            (Each-cut_steps range places ok.start_below below));
        uncut =
            λ k d lt j e inside. parts_uncut (get_or places j e) 0 (cut_steps range places) (below j e inside) r
            (clear_at (cut_steps range places) (get_or places j e) (In-cut_steps range places j e inside)) k d lt;
      }

none_is_cut : (range : Range) (places : List ℕ) → range.size ≡ 0 → IsCut range places []
none_is_cut range places none = record {
  once = λ hash h. grind (arith, nat_tests);
  present = All-nil (λ (part : Range). 0 < part.size);
  in_order = tt;
  begins = All-nil (λ (part : Range). (part.start ≡ range.start) ⊎ Contains places part.start);
  uncut = All-nil (λ (part : Range). All (λ place. ¬ (IsInside part place)) places);
}

pub is_cut : (range : Range) (places : List ℕ) → IsRange range → All (λ place. place < circle) places
    → IsCut range places (cut_parts range places)
unfolding cut_parts
is_cut range places ok below =
    by_size (IsCut range places) (range.size == 0) _ _ (λ none. none_is_cut range places (size_none range.size none))
    (λ some. some_is_cut range ok places (size_some range.size some) below)

pub ranges : (range : Range) (places : List ℕ) → IsRange range → All IsRange (cut_parts range places)
unfolding cut_parts
ranges range places ok =
    by_size (All IsRange) (range.size == 0) _ _ (λ none. All-nil IsRange)
    (λ some. parts_ranges range ok 0 (cut_steps range places) (Rises-cut_steps range places (size_some range.size some)))

-- the places of a program are hashes
pub places_below : (places : List ℕ) → ((i : ℕ) → Fits w32 (get_or places i 0)) → All (λ place. place < circle) places
places_below places fits k d lt = rw (get_or_default places k d 0 lt) (omega (arith, fits k))
