-- The laws of points, rings and owners.
use Rattle.std.proofs.Common.{◌≡◌, ◌⊎◌, ◌↔◌, ℕ, suc, ◌+◌, ◌-◌, ◌<◌, List, [], ◌∷◌, ◌++◌, length, get_or, Bool, true, false, not, cond, if◌then◌else◌, Option, Some, None, Result, Ok, Err, IsTrue, refl, sym, ◌∙◌, ap, subst, inl, inr, ⊎_elim, arith}
use Rattle.std.specs.List.{All, Contains, flat_map, list_all}
use Rattle.std.specs.Option.{option_map_or}
use Rattle.std.specs.Ordering.{is_eq}
use Rattle.std.proofs.lemmas.Bool.{cases_order, and_parts}
use Rattle.texts.proofs.Orderings.{Equal-from}
use Rattle.silo_address.specs.Silo.{Silo, silo_cmp}
use Rattle.silo_address.proofs.Order.{silo_cmp_total, silo_cmp_exact}
use Rattle.silo_address.proofs.Same.{Decides-silo}
use Rattle.ring_range.specs.Range.{circle}
use Rattle.membership_view.specs.declared.Status.{Status}
use Rattle.membership_view.specs.declared.Status.TheVariants.{Active, Leaving, Dead}
use Rattle.membership_view.specs.Row.{is_active}
use Rattle.membership_view.specs.View.{ViewValue, IsByAddress, active_silos, status_of}
use Rattle.texts.proofs.Entries.{lookup-insert_entry}
use Rattle.hash_ring.specs.declared.point.Point.{Point}
use Rattle.hash_ring.specs.Point.{point_cmp, IsOnCircle}
use Rattle.hash_ring.specs.Places.{PlacesValue, places_of, is_added, is_point_count, has_points, places_for, with_silo, after_add}
use Rattle.hash_ring.specs.Owner.{owner_of, owns, is_of_silo, Owns}
use Rattle.hash_ring.specs.Ring.{points_if, silo_points, points_of, sorted_points, ring_of, IsPointOf, IsSortedAnew, are_added, is_active_in}
use Rattle.hash_ring.proofs.Members.{In, In-from_Contains, Contains-from_In}
use Rattle.hash_ring.proofs.Order.{point_cmp_total, point_cmp_exact, same_point}
use Rattle.hash_ring.proofs.StrictOrder.{Rising-from_sorted, sorted-from_Rising, Rising-inserted, In-all_inserted, In-from_inserted, same_rising}
use Rattle.hash_ring.proofs.PointsOfViews.{points_from, IsAt, IsAt-from_In}
use Rattle.hash_ring.proofs.WholeSilos.{In-from_points_of, In-points_of}
use Rattle.hash_ring.proofs.Advanced.{active_in, In-active}
use Rattle.hash_ring.proofs.Ownership.{owner_is, owner_from}

-- ---- which points a view has
In-here : (silo : Silo) (n place : ℕ) (places : List ℕ) (p : Point) → p.silo ≡ silo → n ≡ p.index → place ≡ p.place
    → In p (points_from silo n (place ∷ places))
In-here silo n place places p its index at = inl (same_point (record { place = place; silo = silo; index = n }) p at (sym its) index)

In-from_IsAt : (silo : Silo) (n : ℕ) (places : List ℕ) (p : Point) → IsAt silo n places p → In p (points_from silo n places)
In-from_IsAt silo n [] p is = let low = is.from in let high = is.within in absurd (omega arith)
In-from_IsAt silo n (x ∷ xs) p is = by (cases_order n p.index) (λ later. In-from_IsAt silo (n + 1) xs p later)
  where
    by : (n ≡ p.index) ⊎ ((n < p.index) ⊎ (p.index < n)) → (IsAt silo (n + 1) xs p → In p (points_from silo (n + 1) xs))
        → In p (points_from silo n (x ∷ xs))
    by (inl same) again =
        let none : p.index - n ≡ 0 = omega arith in In-here silo n x xs p is.its same (sym (ap (λ k. get_or (x ∷ xs) k 0) none) ∙ is.at)
    by (inr (inl above)) again =
        let one_on : p.index - n ≡ suc (p.index - (n + 1)) = omega arith in
        inr (again (record {
          its = is.its;
          from = omega arith;
          within = let high = is.within in omega arith;
          at = sym (ap (λ k. get_or (x ∷ xs) k 0) one_on) ∙ is.at;
        }))
    by (inr (inr below)) again = let low = is.from in absurd (omega arith)

only_active : (o : Option Status) → option_map_or (λ status. is_active status) o false ≡ true → o ≡ Some Active
only_active None active = cc
only_active (Some Active) active = refl
only_active (Some Leaving) active = cc
only_active (Some Dead) active = cc

has_point : (view : ViewValue) (places : PlacesValue) (p : Point) → status_of view p.silo ≡ Some Active → (its : Option (List ℕ))
    → places_of places p.silo ≡ its → In p (points_if p.silo its) → IsPointOf view places p
has_point view places p active None is there = absurd there
has_point view places p active (Some list) is there =
    let at = IsAt-from_In p.silo 0 list p there in
    let whole : p.index - 0 ≡ p.index = omega arith in
    record {
      active = active;
      its_places = list;
      has = is;
      within = let high = at.within in
          omega arith;
      at = sym (ap (λ k. get_or list k 0) whole) ∙ at.at;
    }

pub points_are : (view : ViewValue) → IsByAddress view → (places : PlacesValue) (p : Point)
    → Contains (points_of view places) p ↔ IsPointOf view places p
points_are view by_address places p = (
  λ there.
      let found = In-from_points_of view places p (In-from_Contains p (points_of view places) there) in
      has_point view places p (only_active (status_of view p.silo) (active_in view by_address p.silo found.0)) (places_of places p.silo)
      refl found.1,
  λ is.
      let whole : p.index - 0 ≡ p.index = omega arith in
      let at : IsAt p.silo 0 is.its_places p = record {
        its = refl;
        from = omega arith;
        within = let high = is.within in omega arith;
        at = ap (λ k. get_or is.its_places k 0) whole ∙ is.at;
      } in
      let active : is_active_in view p.silo ≡ true = ap (λ o. option_map_or (λ status. is_active status) o false) is.active in
      Contains-from_In p (points_of view places)
      (In-points_of view places p p.silo (In-active view p.silo active)
      (subst (λ o. In p (points_if p.silo o)) (sym is.has) (In-from_IsAt p.silo 0 is.its_places p at))),
)

-- ---- rings stay when a silo is added
abbrev outcome : Bool → Bool → Bool → PlacesValue → Result PlacesValue ℕ
outcome counted missing there other =
    if not counted then Err 402 else (if not missing then Err 403 else (if there then Err 404 else Ok other))

fits_and_new : (counted missing there : Bool) (next other : PlacesValue) → outcome counted missing there other ≡ Ok next
    → (there ≡ false) × (other ≡ next)
fits_and_new false missing there next other is = cc
fits_and_new true false there next other is = cc
fits_and_new true true true next other is = cc
fits_and_new true true false next other is = (refl, cc)

not_that : (places : PlacesValue) (silo other : Silo) (b : Bool) → is_eq (silo_cmp other silo) ≡ b → is_added places silo ≡ false
    → is_added places other ≡ true → b ≡ false
not_that places silo other true at absent there =
    let no : true ≡ false = sym there ∙ ap (λ s. is_added places s) (silo_cmp_exact other silo (Equal-from (silo_cmp other silo) at)) ∙ absent in cc
not_that places silo other false at absent there = refl

same_places : (places : PlacesValue) (silo : Silo) (given : List ℕ) (other : Silo) → is_added places silo ≡ false
    → is_added places other ≡ true → places_of (with_silo places silo given) other ≡ places_of places other
same_places places silo given other absent there =
    let list = places_for places.hashing places.points silo given in
    lookup-insert_entry silo_cmp_total silo list other places.entries
    ∙ ap (λ b. cond b (Some list) (places_of places other)) (not_that places silo other (is_eq (silo_cmp other silo)) refl absent there)

same_points_of : (places : PlacesValue) (silo : Silo) (given : List ℕ) → is_added places silo ≡ false → (silos : List Silo)
    → list_all (is_added places) silos ≡ true
    → flat_map (silo_points (with_silo places silo given)) silos ≡ flat_map (silo_points places) silos
same_points_of places silo given absent [] all = refl
same_points_of places silo given absent (s ∷ ss) all =
    let parts = and_parts (is_added places s) (list_all (is_added places) ss) all in
    let first = ap (λ o. points_if s o) (same_places places silo given s absent parts.0) in
    let rest = same_points_of places silo given absent ss parts.1 in
    λ i. first i ++ rest i

pub ring_stays : (places : PlacesValue) (silo : Silo) (given : List ℕ) (next : PlacesValue) → after_add places silo given ≡ Ok next
    → (view : ViewValue) → are_added view places ≡ true
    → ring_of view next ≡ ring_of view places
ring_stays places silo given next is view all =
    let fits = fits_and_new (is_point_count places.hashing (length given)) (has_points places.hashing (length given)) (is_added places silo) next (with_silo places silo given) is in
    ap (λ l. ring_of view l) (sym fits.1)
    ∙ ap (λ l. record { version = view.version; points = sorted_points l })
    (same_points_of places silo given fits.0 (active_silos view) all)

-- ---- sorted anew
pub is_sorted_anew : (points : List Point) → IsSortedAnew (sorted_points points) points
is_sorted_anew points = record {
  in_order = sorted-from_Rising point_cmp (sorted_points points) (Rising-inserted point_cmp_total points [] tt);
  same = record {
    forth = λ p there.
        Contains-from_In p points (⊎_elim (λ one. one) (λ none. absurd none)
        (In-from_inserted point_cmp_total p points [] (In-from_Contains p (sorted_points points) there)));
    back =
        λ p there. Contains-from_In p (sorted_points points)
        (In-all_inserted point_cmp_total point_cmp_exact p points [] (In-from_Contains p points there));
  };
}

pub only_sorted_anew : (sorted points : List Point) → IsSortedAnew sorted points → sorted ≡ sorted_points points
only_sorted_anew sorted points is =
    same_rising point_cmp_total sorted (sorted_points points) (Rising-from_sorted point_cmp sorted is.in_order)
    (Rising-inserted point_cmp_total points [] tt)
    (λ p there. In-all_inserted point_cmp_total point_cmp_exact p points []
    (In-from_Contains p points (is.same.forth p (Contains-from_In p sorted there))))
    (λ p there. In-from_Contains p sorted (is.same.back p
    (Contains-from_In p points (⊎_elim (λ one. one) (λ none. absurd none) (In-from_inserted point_cmp_total p points [] there)))))

-- ---- who owns
owned : (points : List Point) (silo : Silo) (hash : ℕ) (o : Option Point) → owner_of points hash ≡ o → is_of_silo silo o ≡ true
    → Owns points silo hash
owned points silo hash None is its = cc
owned points silo hash (Some p) is its = (p, owner_is points hash p is, (Decides-silo p.silo silo).0 its)

pub owns_is_owned : (points : List Point) (silo : Silo) (hash : ℕ) → hash < circle → All IsOnCircle points
    → IsTrue (owns points silo hash) ↔ Owns points silo hash
owns_is_owned points silo hash on_hash on_circle = (
  λ its. owned points silo hash (owner_of points hash) refl its,
  λ is. ap (λ o. is_of_silo silo o) (owner_from points hash is.0 on_hash on_circle is.1) ∙ (Decides-silo is.0.silo silo).1 is.2,
)
