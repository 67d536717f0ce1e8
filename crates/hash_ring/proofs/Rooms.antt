-- How much room a point has up to the next place, and whether it owns its own place, in points that stand in order.
use Rattle.std.proofs.Common.{◌≡◌, ◌≢◌, ◌⊎◌, ℕ, ◌+◌, ◌-◌, ◌<◌, ◌≤◌, ◌==◌, min, List, [], ◌∷◌, ◌++◌, length, get_or, take, map, fold, Bool, true, false, cond, if◌then◌else◌, Option, Some, None, refl, sym, ◌∙◌, ap, subst, inl, inr, arith}
use Rattle.std.specs.List.{All, filter}
use Rattle.std.specs.List.Sorted.{IsStrictlySortedBy, IsPartitionPoint}
use Rattle.std.specs.Ordering.{is_gt, nat_cmp, ordering_then, ordering_reverse}
use Rattle.std.proofs.lemmas.Cmp.{tied_itself, nat_cmp_total}
use Rattle.std.specs.declared.cmp.Ordering.{Ordering}
use Rattle.std.specs.declared.cmp.Ordering.TheVariants.{Less, Equal, Greater}
use Rattle.std.proofs.lemmas.Bool.{cases_lt}
use Rattle.std.proofs.lemmas.Bool.Decides.{Decides-eqb}
use Rattle.std.proofs.lemmas.List.{get_or_default}
use Rattle.std.proofs.lemmas.List.Elements.{Contains-get_or}
use Rattle.std.proofs.lemmas.Map.Keys.{Less-from_sorted}
use Rattle.silo_address.specs.Silo.{silo_cmp}
use Rattle.ring_range.specs.Range.{circle, distance}
use Rattle.hash_ring.specs.declared.point.Point.{Point}
use Rattle.hash_ring.specs.Point.{back, point_cmp, point_eq, IsOnCircle}
use Rattle.hash_ring.specs.Owner.{owner_of, IsOwner}
use Rattle.hash_ring.specs.Ranges.{steps_to, room, is_point, owns_its_place}
use Rattle.hash_ring.specs.Search.{PlacesRise}
use Rattle.hash_ring.proofs.Members.{In, In-from_Contains, Contains-from_In}
use Rattle.hash_ring.proofs.Order.{point_cmp_total, Decides-point}
use Rattle.hash_ring.proofs.Nearness.{back_below, back_above, from_no_farther, IsNoFarther}
use Rattle.hash_ring.proofs.PointsOfViews.{one_more}
use Rattle.hash_ring.proofs.Ownership.{owner_from, owner_is, IsNoFarther-from_owner}
use Rattle.hash_ring.proofs.OwnerSearch.{first_alone, owner_found, tied_place}

-- ---- the least of some numbers
pub least_above : {X : Type 0} (f : X → ℕ) (x a : ℕ) (xs : List X) → x ≤ a → ((y : X) → In y xs → x ≤ f y)
    → x ≤ fold (λ least y. min least (f y)) a xs
least_above f x a [] upto each = upto
least_above f x a (y ∷ ys) upto each =
    least_above f x (min a (f y)) ys (let here = each y (inl refl) in omega arith) (λ z later. each z (inr later))

pub least_upto : {X : Type 0} (f : X → ℕ) (a : ℕ) (xs : List X) → fold (λ least y. min least (f y)) a xs ≤ a
least_upto f a [] = omega arith
least_upto f a (y ∷ ys) = let later = least_upto f (min a (f y)) ys in omega arith

pub least_below : {X : Type 0} (f : X → ℕ) (a : ℕ) (xs : List X) (y : X) → In y xs → fold (λ least z. min least (f z)) a xs ≤ f y
least_below f a [] y there = absurd there
least_below f a (z ∷ zs) y (inl here) = let upto = least_upto f (min a (f z)) zs in let same = ap f here in omega arith
least_below f a (z ∷ zs) y (inr later) = least_below f (min a (f z)) zs y later

-- ---- steps forward
pub steps_itself : (place other : ℕ) → other ≡ place → steps_to place other ≡ circle
steps_itself place other same = let test = (Decides-eqb other place).1 same in ap (λ b. if b then circle else distance place other) test

other_test : (place other : ℕ) (b : Bool) → (other == place) ≡ b → other ≢ place → b ≡ false
other_test place other true is apart = absurd (apart ((Decides-eqb other place).0 is))
other_test place other false is apart = refl

pub steps_other : (place other : ℕ) → other ≢ place → steps_to place other ≡ distance place other
steps_other place other apart = ap (λ b. if b then circle else distance place other) (other_test place other (other == place) refl apart)

pub steps_on : (place other : ℕ) → place < other → steps_to place other ≡ other - place
steps_on place other above = steps_other place other (λ same. absurd (omega arith)) ∙ back_below other place (omega arith)

pub steps_round : (place other : ℕ) → other < place → steps_to place other ≡ (other + circle) - place
steps_round place other below = steps_other place other (λ same. absurd (omega arith)) ∙ back_above other place below

-- ---- the room up to the next place
pub room_to_next : (points : List Point) (place next : ℕ) → PlacesRise points → All IsOnCircle points → next < length points
    → IsPartitionPoint (λ p. p.place ≤ place) (λ p. place < p.place) points next → (d : Point)
    → (get_or points next d).place - place ≡ room points place
room_to_next points place next rise on_circle within split d = let upper = up in let lower = low in omega arith
  where
    after : place < (get_or points next d).place
    after = split.1 next d (omega arith) within

    its_steps : steps_to place (get_or points next d).place ≡ (get_or points next d).place - place
    its_steps = steps_on place (get_or points next d).place after

    up : room points place ≤ (get_or points next d).place - place
    up =
        let least = least_below (λ (p : Point). steps_to place p.place) circle points (get_or points next d) (In-from_Contains (get_or points next d) points (Contains-get_or points next d within)) in
        let is = its_steps in
        omega arith

    each_at : (k : ℕ) → k < length points → (k < next) ⊎ (next ≤ k) → ((get_or points k d).place < place)
        ⊎ (place ≤ (get_or points k d).place) → (get_or points next d).place - place ≤ steps_to place (get_or points k d).place
    each_at k inside (inl before) (inl lower) =
        let is = steps_round place (get_or points k d).place lower in let on = on_circle next d within in omega arith
    each_at k inside (inl before) (inr upper) =
        let upto : (get_or points k d).place ≤ place = split.0 k d (omega arith) before in
        let is = steps_itself place (get_or points k d).place (omega arith) in
        let on = on_circle next d within in
        omega arith
    each_at k inside (inr beyond) any =
        let above : place < (get_or points k d).place = split.1 k d beyond inside in
        let is = steps_on place (get_or points k d).place above in
        let upto : (get_or points next d).place ≤ (get_or points k d).place = rise next k d beyond inside in
        omega arith

    each : (p : Point) → In p points → (get_or points next d).place - place ≤ steps_to place p.place
    each p there =
        let at = Contains-from_In p points there in
        let same : get_or points at.0 d ≡ p = get_or_default points at.0 d p at.1 ∙ at.2 in
        subst (λ (q : Point). (get_or points next d).place - place ≤ steps_to place q.place) same
        (each_at at.0 at.1 (cases_lt at.0 next) (cases_lt (get_or points at.0 d).place place))

    low : (get_or points next d).place - place ≤ room points place
    low =
        least_above (λ (p : Point). steps_to place p.place) ((get_or points next d).place - place) circle points
        (let on = on_circle next d within in omega arith) each

pub room_round : (points : List Point) (place next : ℕ) → PlacesRise points → All IsOnCircle points → 0 < length points → place < circle
    → length points ≤ next → (d : Point) → (get_or points 0 d).place ≤ place
    → IsPartitionPoint (λ p. p.place ≤ place) (λ p. place < p.place) points next
    → circle - (place - (get_or points 0 d).place) ≡ room points place
room_round points place next rise on_circle some on_place past d first split =
    let upper = up (cases_lt (get_or points 0 d).place place) in let lower = low in omega arith
  where
    up : ((get_or points 0 d).place < place) ⊎ (place ≤ (get_or points 0 d).place)
        → room points place ≤ circle - (place - (get_or points 0 d).place)
    up (inl below) =
        let least = least_below (λ (p : Point). steps_to place p.place) circle points (get_or points 0 d) (In-from_Contains (get_or points 0 d) points (Contains-get_or points 0 d some)) in
        let is = steps_round place (get_or points 0 d).place below in
        omega arith
    up (inr level) = let least = least_upto (λ (p : Point). steps_to place p.place) circle points in omega arith

    each_at : (k : ℕ) → k < length points → ((get_or points k d).place < place) ⊎ (place ≤ (get_or points k d).place)
        → circle - (place - (get_or points 0 d).place) ≤ steps_to place (get_or points k d).place
    each_at k inside (inl below) =
        let is = steps_round place (get_or points k d).place below in
        let upto : (get_or points 0 d).place ≤ (get_or points k d).place = rise 0 k d (omega arith) inside in
        omega arith
    each_at k inside (inr above) =
        let upto : (get_or points k d).place ≤ place = split.0 k d (omega arith) (omega arith) in
        let is = steps_itself place (get_or points k d).place (omega arith) in
        omega arith

    each : (p : Point) → In p points → circle - (place - (get_or points 0 d).place) ≤ steps_to place p.place
    each p there =
        let at = Contains-from_In p points there in
        let same : get_or points at.0 d ≡ p = get_or_default points at.0 d p at.1 ∙ at.2 in
        subst (λ (q : Point). circle - (place - (get_or points 0 d).place) ≤ steps_to place q.place) same
        (each_at at.0 at.1 (cases_lt (get_or points at.0 d).place place))

    low : circle - (place - (get_or points 0 d).place) ≤ room points place
    low =
        least_above (λ (p : Point). steps_to place p.place) (circle - (place - (get_or points 0 d).place)) circle points (omega arith) each

-- ---- the first point at a place owns it
pub owner_there : (points : List Point) (at : ℕ) (d : Point) → IsStrictlySortedBy point_cmp points → PlacesRise points → at < length points
    → ((e : Point) → 0 < at → (get_or points (at - 1) e).place ≢ (get_or points at e).place)
    → IsOwner points (get_or points at d).place (get_or points at d)
owner_there points at d sorted rise within apart =
    owner_found points (get_or points at d).place at at d sorted
    (record {
      within = within;
      nearest = λ k e inside.
          let same : (get_or points at e).place ≡ (get_or points at d).place = ap (λ (p : Point). p.place) (get_or_default points at e d within) in
          let none : back (get_or points at d).place (get_or points at e).place ≡ 0 = ap (λ n. back (get_or points at d).place n) same ∙ back_below (get_or points at d).place (get_or points at d).place (omega arith) ∙ omega arith in
          omega arith;
    })
    (first_alone points at rise within apart) (omega arith)

pub owns_first : (points : List Point) (at : ℕ) (d : Point) → IsStrictlySortedBy point_cmp points → PlacesRise points
    → All IsOnCircle points → at < length points
    → ((e : Point) → 0 < at → (get_or points (at - 1) e).place ≢ (get_or points at e).place)
    → true ≡ owns_its_place points (get_or points at d)
owns_first points at d sorted rise on_circle within apart =
    let p : Point = get_or points at d in
    let is : owner_of points p.place ≡ Some p = owner_from points p.place p (on_circle at d within) on_circle (owner_there points at d sorted rise within apart) in
    sym (ap (λ o. is_point p o) is ∙ (Decides-point p p).1 refl)

not_owner : (points : List Point) (at : ℕ) (d : Point) → IsStrictlySortedBy point_cmp points → All IsOnCircle points → at < length points
    → 0 < at
    → (get_or points (at - 1) d).place ≡ (get_or points at d).place → IsOwner points (get_or points at d).place (get_or points at d) → ⊥
not_owner points at d sorted on_circle within some same is =
    let p : Point = get_or points at d in
    let q : Point = get_or points (at - 1) d in
    let before : point_cmp q p ≡ Less = Less-from_sorted point_cmp points (at - 1) at d sorted (omega arith) within in
    let after : point_cmp p q ≡ Greater = point_cmp_total.antisymm p q ∙ ap ordering_reverse before in
    let no_farther : IsNoFarther p.place p q = IsNoFarther-from_owner p.place points p q is (In-from_Contains q points (Contains-get_or points (at - 1) d (omega arith))) in
    let upto = from_no_farther p.place p q (on_circle at d within) (on_circle at d within) (on_circle (at - 1) d (omega arith)) no_farther in
    let rest : Ordering = ordering_then (silo_cmp p.silo q.silo) (nat_cmp p.index q.index) in
    let level : nat_cmp (back p.place p.place) (back p.place q.place) ≡ Equal =
    ap (λ n. nat_cmp (back p.place p.place) (back p.place n)) same ∙ tied_itself nat_cmp_total (back p.place p.place) in
    let not_after : is_gt rest ≡ false = sym (ap (λ r. is_gt (ordering_then r rest)) level) ∙ upto in
    let is_after : rest ≡ Greater = tied_place p q Greater same after in
    let no : true ≡ false = sym (ap is_gt is_after) ∙ not_after in cc

by_owner : (points : List Point) (p : Point) (o : Option Point) → owner_of points p.place ≡ o → (IsOwner points p.place p → ⊥)
    → false ≡ is_point p o
by_owner points p None is never = refl
by_owner points p (Some q) is never = differs (point_eq p q) refl
  where
    differs : (b : Bool) → point_eq p q ≡ b → false ≡ b
    differs true same =
        absurd (never (subst (λ x. IsOwner points p.place x) (sym ((Decides-point p q).0 same)) (owner_is points p.place q is)))
    differs false same = refl

pub owns_none : (points : List Point) (at : ℕ) (d : Point) → IsStrictlySortedBy point_cmp points → All IsOnCircle points
    → at < length points → 0 < at
    → (get_or points (at - 1) d).place ≡ (get_or points at d).place → false ≡ owns_its_place points (get_or points at d)
owns_none points at d sorted on_circle within some same =
    by_owner points (get_or points at d) (owner_of points (get_or points at d).place) refl
    (not_owner points at d sorted on_circle within some same)

-- what is made of the points that pass a test
abbrev pub picked : {A : Type 0} → (Point → A) → (Point → Bool) → List Point → List A
picked make test points = map make (filter test points)

picked-append : {A : Type 0} (make : Point → A) (test : Point → Bool) (xs ys : List Point)
    → picked make test (xs ++ ys) ≡ picked make test xs ++ picked make test ys
picked-append make test [] ys = refl
picked-append make test (x ∷ xs) ys = by (test x) (picked-append make test xs ys)
  where
    by : (b : Bool) → picked make test (xs ++ ys) ≡ picked make test xs ++ picked make test ys
        → map make (cond b (x ∷ filter test (xs ++ ys)) (filter test (xs ++ ys))) ≡ map make (cond b (x ∷ filter test xs) (filter test xs))
        ++ picked make test ys
    by true later = ap (λ l. make x ∷ l) later
    by false later = later

pub one_picked_more : {A : Type 0} (make : Point → A) (test : Point → Bool) (points : List Point) (i : ℕ) (p : Point) (passes : Bool)
    → i < length points → p ≡ get_or points i p → passes ≡ test p
    → picked make test (take (i + 1) points) ≡ picked make test (take i points) ++ cond passes (make p ∷ []) []
one_picked_more make test points i p passes within is told =
    ap (λ l. picked make test l) (one_more points i p within is)
    ∙ picked-append make test (take i points) (p ∷ [])
    ∙ ap (λ l. picked make test (take i points) ++ l) (by passes told)
  where
    by : (b : Bool) → b ≡ test p → picked make test (p ∷ []) ≡ cond b (make p ∷ []) []
    by true told = ap (λ b. map make (cond b (p ∷ []) [])) (sym told)
    by false told = ap (λ b. map make (cond b (p ∷ []) [])) (sym told)
