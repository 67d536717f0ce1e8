-- What all places keep, and so all rings.
use Rattle.std.proofs.Common.{◌≡◌, ◌⊎◌, inl, inr, ℕ, ◌-◌, ◌<◌, ◌≤◌, List, [], length, Bool, true, false, cond, Option, Some, None, refl, sym, ◌∙◌, subst, arith, IsTrue}
use Rattle.std.specs.List.{All}
use Rattle.std.specs.List.Sorted.{IsStrictlySortedBy}
use Rattle.std.specs.Map.{lookup, keys_of}
use Rattle.std.specs.BTreeMap.{is_at, insert_entry}
use Rattle.std.specs.Ordering.{is_eq}
use Rattle.std.proofs.lemmas.Bool.Decides.{nat_tests}
use Rattle.std.proofs.lemmas.List.Elements.{All-same, All-get_or}
use Rattle.std.proofs.lemmas.List.FromFn.{length-map-range_with_len}
use Rattle.std.proofs.lemmas.Option.{same_Some}
use Rattle.texts.proofs.Orderings.{Equal-from}
use Rattle.silo_address.specs.Silo.{Silo, silo_cmp}
use Rattle.silo_address.proofs.Order.{silo_cmp_total, silo_cmp_exact}
use Rattle.ring_range.specs.Range.{circle}
use Rattle.membership_view.specs.View.{ViewValue, active_silos}
use Rattle.texts.proofs.Entries.{lookup-insert_entry, sorted-insert_entry}
use Rattle.hash_ring.specs.declared.hashing.Hashing.{Hashing}
use Rattle.hash_ring.specs.declared.hashing.Hashing.TheVariants.{Sha256, Stated}
use Rattle.hash_ring.specs.declared.point.Point.{Point}
use Rattle.hash_ring.specs.Hash.{hash_text, point_text, hashed_places}
use Rattle.hash_ring.specs.Point.{point_cmp, IsOnCircle}
use Rattle.hash_ring.specs.Places.{PlacesValue, places_of, is_point_count, has_points, places_for, most_points, ArePlaces, IsPlaces}
use Rattle.hash_ring.specs.Ring.{IsRing, points_if, silo_points, points_of, sorted_ring}
use Rattle.hash_ring.proofs.Members.{In, In-from_flat_map, All-from_each}
use Rattle.hash_ring.proofs.StrictOrder.{sorted-from_Rising, Rising-inserted, In-from_inserted}
use Rattle.hash_ring.proofs.Order.{point_cmp_total}
use Rattle.hash_ring.proofs.PointsOfViews.{IsAt-from_In}

-- ---- a silo is added
these_places : (places : PlacesValue) (silo : Silo) (given : List ℕ) (hashing : Hashing) → places.hashing ≡ hashing → (0 < places.points)
    → (places.points ≤ most_points)
    → IsTrue (is_point_count hashing (length given)) → IsTrue (has_points hashing (length given))
    → All (λ place. place < circle) (places_for hashing places.points silo given)
    → ArePlaces places silo (places_for hashing places.points silo given)
these_places places silo given Sha256 is above below count some hashes =
    let long : length (hashed_places places.points silo) ≡ places.points = length-map-range_with_len (λ index. hash_text (point_text silo index)) 0 places.points in
    record { some = omega arith; most = omega arith; hashes = hashes; hashed = λ _. refl }
these_places places silo given Stated is above below count some hashes = record {
  some = grind (arith, nat_tests);
  most = grind (arith, nat_tests);
  hashes = hashes;
  hashed = λ hashed. let no : Sha256 ≡ Stated = sym hashed ∙ is in cc;
}

entry_of : (places : PlacesValue) (silo : Silo) (list : List ℕ) → ArePlaces places silo list → (other : Silo) (found : List ℕ) (b : Bool)
    → is_eq (silo_cmp other silo) ≡ b
    → ((its : List ℕ) → places_of places other ≡ Some its → ArePlaces places other its)
    → cond b (Some list) (places_of places other) ≡ Some found → ArePlaces places other found
entry_of places silo list are other found true at each is =
    let same : silo ≡ other = sym (silo_cmp_exact other silo (Equal-from (silo_cmp other silo) at)) in
    subst (λ l. ArePlaces places other l) (same_Some list found is) (subst (λ s. ArePlaces places s list) same are)
entry_of places silo list are other found false at each is = each found is

pub IsPlaces-more : (places : PlacesValue) (silo : Silo) (list : List ℕ) → IsPlaces places → ArePlaces places silo list
    → IsPlaces (record places { entries = insert_entry silo_cmp places.entries silo list })
IsPlaces-more places silo list kept are = record {
  points_above = kept.points_above;
  points_below = kept.points_below;
  in_order = sorted-insert_entry silo_cmp_total silo list places.entries kept.in_order;
  each = λ other found is.
      let its = entry_of places silo list are other found (is_eq (silo_cmp other silo)) refl (λ its known. kept.each other its known)
      (sym (lookup-insert_entry silo_cmp_total silo list other places.entries) ∙ is) in
      record { some = its.some; most = its.most; hashes = its.hashes; hashed = its.hashed };
}

pub IsPlaces-with_silo : (places : PlacesValue) (silo : Silo) (given list : List ℕ) → IsPlaces places
    → IsTrue (is_point_count places.hashing (length given)) → IsTrue (has_points places.hashing (length given))
    → list ≡ places_for places.hashing places.points silo given → All (λ place. place < circle) list
    → IsPlaces (record places { entries = insert_entry silo_cmp places.entries silo list })
IsPlaces-with_silo places silo given list kept count some is hashes =
    IsPlaces-more places silo list kept
    (subst (λ l. ArePlaces places silo l) (sym is)
    (these_places places silo given places.hashing refl kept.points_above kept.points_below count some
    (All-same (λ place. place < circle) _ _ (sym is) hashes)))

-- ---- a silo is taken out
found_before : (out : Bool) (its : Option (List ℕ)) (found : List ℕ) → cond out None its ≡ Some found → its ≡ Some found
found_before true its found is = cc
found_before false its found is = is

pub IsPlaces-less : (places : PlacesValue) (silo : Silo) (entries : List (Silo × List ℕ)) → IsPlaces places
    → IsStrictlySortedBy silo_cmp (keys_of entries)
    → ((other : Silo) → lookup (is_at (silo_cmp other)) entries ≡ cond (is_at (silo_cmp silo) other) None (places_of places other))
    → IsPlaces (record places { entries = entries })
IsPlaces-less places silo entries kept in_order left = record {
  points_above = kept.points_above;
  points_below = kept.points_below;
  in_order = in_order;
  each = λ other found is.
      let its = kept.each other found (found_before (is_at (silo_cmp silo) other) (places_of places other) found (sym (left other) ∙ is)) in
      record { some = its.some; most = its.most; hashes = its.hashes; hashed = its.hashed };
}

-- ---- points stand on the circle
on_circle_if : (places : PlacesValue) (silo : Silo) → IsPlaces places → (its : Option (List ℕ)) → places_of places silo ≡ its
    → (point : Point) → In point (points_if silo its) → IsOnCircle point
on_circle_if places silo kept None is point there = absurd there
on_circle_if places silo kept (Some its) is point there =
    let at = IsAt-from_In silo 0 its point there in
    let are = kept.each silo its is in
    let within : point.index - 0 < length its = let high = at.within in omega arith in
    subst (λ n. n < circle) at.at (All-get_or (λ place. place < circle) its (point.index - 0) 0 within are.hashes)

pub points_on_circle : (view : ViewValue) (places : PlacesValue) → IsPlaces places → (point : Point) → In point (points_of view places)
    → IsOnCircle point
points_on_circle view places kept point there =
    let found = In-from_flat_map (silo_points places) point (active_silos view) there in
    on_circle_if places found.0 kept (places_of places found.0) refl point found.2

pub IsRing-anew : (view : ViewValue) (places : PlacesValue) → IsPlaces places → (version : ℕ) (points : List Point)
    → points ≡ sorted_ring view places
    → IsRing (record { version = version; points = points })
IsRing-anew view places kept version points is =
    subst (λ l. IsRing (record { version = version; points = l })) (sym is) (record {
      in_order = sorted-from_Rising point_cmp (sorted_ring view places) (Rising-inserted point_cmp_total (points_of view places) [] tt);
      on_circle =
          All-from_each IsOnCircle (sorted_ring view places)
          (λ p there. only p (In-from_inserted point_cmp_total p (points_of view places) [] there));
    })
  where
    only : (p : Point) → In p (points_of view places) ⊎ In p [] → IsOnCircle p
    only p (inl there) = points_on_circle view places kept p there
    only p (inr none) = absurd none
