-- The search for an owner by halves, in points that stand in order.
use Rattle.std.proofs.Common.{◌≡◌, ◌≢◌, ◌⊎◌, ℕ, ◌-◌, ◌<◌, ◌≤◌, List, length, get_or, false, refl, sym, ◌∙◌, ap, subst, inl, inr, arith}
use Rattle.std.specs.List.{All}
use Rattle.std.specs.List.Sorted.{IsStrictlySortedBy, IsPartitionPoint}
use Rattle.std.specs.Ordering.{is_gt, nat_cmp, ordering_then}
use Rattle.std.specs.declared.cmp.Ordering.{Ordering}
use Rattle.std.specs.declared.cmp.Ordering.TheVariants.{Less, Equal}
use Rattle.std.proofs.lemmas.Bool.{cases_lt}
use Rattle.std.proofs.lemmas.Cmp.{tied_itself, nat_cmp_total}
use Rattle.std.proofs.lemmas.List.{get_or_default}
use Rattle.silo_address.proofs.Order.{silo_cmp_total}
use Rattle.std.proofs.lemmas.Map.Keys.{Less-from_sorted, le_from_not_gt}
use Rattle.std.proofs.lemmas.List.Elements.{Contains-get_or}
use Rattle.texts.proofs.Orderings.{first_of_less}
use Rattle.silo_address.specs.Silo.{silo_cmp}
use Rattle.ring_range.specs.Range.{circle}
use Rattle.hash_ring.specs.declared.point.Point.{Point}
use Rattle.hash_ring.specs.Point.{back, point_cmp, IsOnCircle}
use Rattle.hash_ring.specs.Owner.{IsOwner}
use Rattle.hash_ring.specs.Search.{PlacesRise, IsLastMet, IsFirstThere}
use Rattle.hash_ring.proofs.Nearness.{back_below, back_above}

pub place_upto : (p q : Point) → point_cmp p q ≡ Less → p.place ≤ q.place
place_upto p q less =
    le_from_not_gt p.place q.place (first_of_less (nat_cmp p.place q.place)
    (ordering_then (silo_cmp p.silo q.silo) (nat_cmp p.index q.index)) less)

-- points in order stand by place
pub places_rise : (points : List Point) → IsStrictlySortedBy point_cmp points → PlacesRise points
places_rise points sorted i j d upto within = by (cases_lt i j)
  where
    by : (i < j) ⊎ (j ≤ i) → (get_or points i d).place ≤ (get_or points j d).place
    by (inl before) = place_upto (get_or points i d) (get_or points j d) (Less-from_sorted point_cmp points i j d sorted before within)
    by (inr after) = let same : i ≡ j = omega arith in let e = ap (λ n. (get_or points n d).place) same in omega arith

-- the last point up to the hash is the nearest
pub last_up_to : (points : List Point) (hash past : ℕ) → PlacesRise points → All IsOnCircle points → past ≤ length points
    → IsPartitionPoint (λ p. p.place ≤ hash) (λ p. hash < p.place) points past → 0 < past → IsLastMet points hash (past - 1)
last_up_to points hash past rise on_circle bound split some = record {
  within = omega arith;
  nearest = λ k d within. by k d within (cases_lt k past);
}
  where
    by : (k : ℕ) (d : Point) → k < length points → (k < past) ⊎ (past ≤ k)
        → back hash (get_or points (past - 1) d).place ≤ back hash (get_or points k d).place
    by k d within (inl before) =
        let low : (get_or points (past - 1) d).place ≤ hash = split.0 (past - 1) d (omega arith) (omega arith) in
        let its : (get_or points k d).place ≤ hash = split.0 k d (omega arith) before in
        let upto : (get_or points k d).place ≤ (get_or points (past - 1) d).place = rise k (past - 1) d (omega arith) (omega arith) in
        let one = back_below hash (get_or points (past - 1) d).place low in
        let two = back_below hash (get_or points k d).place its in
        omega arith
    by k d within (inr after) =
        let low : (get_or points (past - 1) d).place ≤ hash = split.0 (past - 1) d (omega arith) (omega arith) in
        let its : hash < (get_or points k d).place = split.1 k d after within in
        let on : (get_or points k d).place < circle = on_circle k d within in
        let one = back_below hash (get_or points (past - 1) d).place low in
        let two = back_above hash (get_or points k d).place its in
        omega arith

-- where all points stand after the hash, the last of them is the nearest
pub last_of_all : (points : List Point) (hash past : ℕ) → PlacesRise points
    → IsPartitionPoint (λ p. p.place ≤ hash) (λ p. hash < p.place) points past → past ≤ 0 → 0 < length points
    → IsLastMet points hash (length points - 1)
last_of_all points hash past rise split none some = record {
  within = omega arith;
  nearest = λ k d within.
      let last : hash < (get_or points (length points - 1) d).place = split.1 (length points - 1) d (omega arith) (omega arith) in
      let its : hash < (get_or points k d).place = split.1 k d (omega arith) within in
      let upto : (get_or points k d).place ≤ (get_or points (length points - 1) d).place = rise k (length points - 1) d (omega arith) (omega arith) in
      let one = back_above hash (get_or points (length points - 1) d).place last in
      let two = back_above hash (get_or points k d).place its in
      omega arith;
}

-- where the point before is at another place, this one is the first there
pub first_alone : (points : List Point) (last : ℕ) → PlacesRise points → last < length points
    → ((d : Point) → 0 < last → (get_or points (last - 1) d).place ≢ (get_or points last d).place) → IsFirstThere points last last
first_alone points last rise within apart = record {
  there = λ d. refl;
  none_before = λ k d below same. by k d same (cases_lt k last);
}
  where
    by : (k : ℕ) (d : Point) → (get_or points k d).place ≡ (get_or points last d).place → (k < last) ⊎ (last ≤ k) → last ≤ k
    by k d same (inl before) =
        let one : (get_or points k d).place ≤ (get_or points (last - 1) d).place = rise k (last - 1) d (omega arith) (omega arith) in
        let two : (get_or points (last - 1) d).place ≤ (get_or points last d).place = rise (last - 1) last d (omega arith) within in
        absurd (apart d (omega arith) (omega arith))
    by k d same (inr after) = after

-- the first point that stands not before the place is the first there
pub first_by_halves : (points : List Point) (last place first : ℕ) → PlacesRise points → last < length points
    → ((d : Point) → place ≡ (get_or points last d).place)
    → first ≤ length points → IsPartitionPoint (λ p. p.place < place) (λ p. place ≤ p.place) points first → (d : Point)
    → (first ≤ last) × IsFirstThere points last first
first_by_halves points last place first rise within at bound split e =
    let upto = not_past e (cases_lt last first) in (
      upto,
      record {
        there = λ d.
            let one : (get_or points first d).place ≤ (get_or points last d).place = rise first last d upto within in
            let two : place ≤ (get_or points first d).place = split.1 first d (omega arith) (omega arith) in
            let its = at d in
            omega arith;
        none_before = λ k d below same. by k d same (cases_lt k first);
      },
    )
  where
    not_past : Point → (last < first) ⊎ (first ≤ last) → first ≤ last
    not_past d (inl before) =
        let low : (get_or points last d).place < place = split.0 last d (omega arith) before in let its = at d in absurd (omega arith)
    not_past d (inr upto) = upto

    by : (k : ℕ) (d : Point) → (get_or points k d).place ≡ (get_or points last d).place → (k < first) ⊎ (first ≤ k) → first ≤ k
    by k d same (inl before) =
        let low : (get_or points k d).place < place = split.0 k d (omega arith) before in let its = at d in absurd (omega arith)
    by k d same (inr after) = after

-- ---- the first point at the place of the last that is met is the owner
pub tied_place : (p q : Point) (o : Ordering) → q.place ≡ p.place → point_cmp p q ≡ o
    → ordering_then (silo_cmp p.silo q.silo) (nat_cmp p.index q.index) ≡ o
tied_place p q o same is =
    let tied : nat_cmp p.place q.place ≡ Equal = ap (λ n. nat_cmp p.place n) same ∙ tied_itself nat_cmp_total p.place in
    sym (ap (λ r. ordering_then r (ordering_then (silo_cmp p.silo q.silo) (nat_cmp p.index q.index))) tied) ∙ is

not_less : (p q : Point) → q.place ≡ p.place → (point_cmp p q ≡ Less) ⊎ (p ≡ q) → is_gt (silo_cmp p.silo q.silo) ≡ false
not_less p q same (inl less) = first_of_less (silo_cmp p.silo q.silo) (nat_cmp p.index q.index) (tied_place p q Less same less)
not_less p q same (inr one) =
    ap (λ s. is_gt (silo_cmp p.silo s)) (sym (ap (λ (x : Point). x.silo) one)) ∙ ap is_gt (tied_itself silo_cmp_total p.silo)

index_upto : (p q : Point) → q.place ≡ p.place → q.silo ≡ p.silo → (point_cmp p q ≡ Less) ⊎ (p ≡ q) → p.index ≤ q.index
index_upto p q same silo (inl less) =
    let tied : silo_cmp p.silo q.silo ≡ Equal = ap (λ s. silo_cmp p.silo s) silo ∙ tied_itself silo_cmp_total p.silo in
    le_from_not_gt p.index q.index (ap is_gt (sym (ap (λ r. ordering_then r (nat_cmp p.index q.index)) tied)
    ∙ tied_place p q Less same less))
index_upto p q same silo (inr one) = let e : p.index ≡ q.index = ap (λ (x : Point). x.index) one in omega arith

pub owner_found : (points : List Point) (hash last first : ℕ) (d : Point) → IsStrictlySortedBy point_cmp points → IsLastMet points hash last
    → IsFirstThere points last first
    → first ≤ last → IsOwner points hash (get_or points first d)
owner_found points hash last first d sorted met is upto = record {
  there = Contains-get_or points first d (let within = met.within in omega arith);
  nearest = λ k e within. same_back k e within;
  first_silo = λ k e within same. not_less (get_or points first d) (get_or points k e) same (in_order k e within same);
  first_index = λ k e within same silo. index_upto (get_or points first d) (get_or points k e) same silo (in_order k e within same);
}
  where
    here : first < length points
    here = let within = met.within in omega arith

    one_default : (e : Point) → get_or points first d ≡ get_or points first e
    one_default e = get_or_default points first d e here

    same_back : (k : ℕ) (e : Point) → k < length points → back hash (get_or points first d).place ≤ back hash (get_or points k e).place
    same_back k e within =
        subst (λ n. back hash n ≤ back hash (get_or points k e).place) (sym (ap (λ (p : Point). p.place) (one_default e) ∙ is.there e))
        (met.nearest k e within)

    by : (k : ℕ) (e : Point) → k < length points → (first < k) ⊎ (k ≤ first) → first ≤ k
        → (point_cmp (get_or points first d) (get_or points k e) ≡ Less) ⊎ (get_or points first d ≡ get_or points k e)
    by k e within (inl before) upto_k =
        inl (ap (λ p. point_cmp p (get_or points k e)) (one_default e) ∙ Less-from_sorted point_cmp points first k e sorted before within)
    by k e within (inr after) upto_k = let same : first ≡ k = omega arith in inr (one_default e ∙ ap (λ n. get_or points n e) same)

    in_order : (k : ℕ) (e : Point) → k < length points → (get_or points k e).place ≡ (get_or points first d).place
        → (point_cmp (get_or points first d) (get_or points k e) ≡ Less) ⊎ (get_or points first d ≡ get_or points k e)
    in_order k e within same =
        by k e within (cases_lt first k) (is.none_before k e within (same ∙ ap (λ (p : Point). p.place) (one_default e) ∙ is.there e))
