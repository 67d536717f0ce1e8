-- The points of a ring, those of silos that are no longer Active taken out and those of new silos put in, are the next ring's.
use Rattle.std.proofs.Common.{◌≡◌, ◌⊎◌, ℕ, List, [], ◌∷◌, Bool, true, false, not, ◌&&◌, cond, fold, Option, Some, None, is_some, refl, sym, ◌∙◌, ap, subst, inl, inr}
use Rattle.std.specs.List.{filter, flat_map, list_all}
use Rattle.std.specs.Map.{lookup, keys_of}
use Rattle.std.specs.BTreeMap.{is_at}
use Rattle.std.specs.BTreeSet.{insert_key}
use Rattle.std.specs.Option.{option_map_or}
use Rattle.std.specs.Ordering.{is_eq}
use Rattle.std.specs.declared.cmp.Ordering.TheVariants.{Less}
use Rattle.std.proofs.lemmas.Cmp.{tied_itself}
use Rattle.texts.proofs.Orderings.{Equal-from}
use Rattle.silo_address.specs.Silo.{Silo, silo_cmp}
use Rattle.silo_address.proofs.Order.{silo_cmp_total, silo_cmp_exact}
use Rattle.membership_view.specs.declared.Status.{Status}
use Rattle.membership_view.specs.Row.{is_active}
use Rattle.membership_view.specs.View.{ViewValue, IsByAddress, active_silos, is_outlived, or_outlived}
use Rattle.hash_ring.specs.declared.point.Point.{Point}
use Rattle.hash_ring.specs.Point.{point_cmp}
use Rattle.hash_ring.specs.Places.{PlacesValue, is_added, places_of}
use Rattle.hash_ring.specs.Ring.{points_if, RingValue, IsRingBy, is_active_in, is_on_ring, new_silos, silo_points, points_of, sorted_ring, are_added}
use Rattle.hash_ring.proofs.Members.{In, In-filter, In-from_filter, In-flat_map, In-from_flat_map, In-map, In-from_map}
use Rattle.hash_ring.proofs.Order.{point_cmp_total, point_cmp_exact}
use Rattle.hash_ring.proofs.StrictOrder.{Rising, Rising-from_sorted, Rising-filter, Rising-inserted, In-start, In-all_inserted, In-from_inserted, same_rising, never_itself}
use Rattle.hash_ring.proofs.WholeSilos.{some_of, In-ring, In-from_ring, In-from_points_of, In-points_of}

-- ---- Active silos, by their rows and by a look-up
not_at : (silo : Silo) (e : Silo × Status) (es : List (Silo × Status)) → ((y : Silo) → In y (keys_of es) → silo_cmp e.0 y ≡ Less)
    → In silo (keys_of es) → is_eq (silo_cmp silo e.0) ≡ true → ⊥
not_at silo e es first there at =
    let same : silo ≡ e.0 = silo_cmp_exact silo e.0 (Equal-from (silo_cmp silo e.0) at) in
    never_itself silo_cmp_total e.0 (subst (λ s. silo_cmp e.0 s ≡ Less) same (first silo there))

abbrev is_active_by : List (Silo × Status) → Silo → Bool
is_active_by rows silo = option_map_or (λ status. is_active status) (lookup (is_at (silo_cmp silo)) rows) false

active_key : (rows : List (Silo × Status)) (silo : Silo) → In silo (keys_of (filter (λ row. is_active row.1) rows)) → In silo (keys_of rows)
active_key rows silo there =
    let found = In-from_map (λ (e : Silo × Status). e.0) silo (filter (λ row. is_active row.1) rows) there in
    subst (λ s. In s (keys_of rows)) found.2 (In-map (λ (e : Silo × Status). e.0) found.0 rows
    (In-from_filter (λ row. is_active row.1) found.0 rows found.1).0)

looked_up : (rows : List (Silo × Status)) → Rising silo_cmp (keys_of rows) → (silo : Silo)
    → In silo (keys_of (filter (λ row. is_active row.1) rows)) → is_active_by rows silo ≡ true
looked_up [] rising silo there = absurd there
looked_up (e ∷ es) rising silo there =
    by (is_active e.1) refl (is_eq (silo_cmp silo e.0)) refl (λ later. looked_up es rising.1 silo later) there
  where
    by : (a : Bool) → is_active e.1 ≡ a → (b : Bool) → is_eq (silo_cmp silo e.0) ≡ b
        → (In silo (keys_of (filter (λ row. is_active row.1) es)) → is_active_by es silo ≡ true)
        → In silo (keys_of (cond a (e ∷ filter (λ row. is_active row.1) es) (filter (λ row. is_active row.1) es)))
        → option_map_or (λ status. is_active status) (cond b (Some e.1) (lookup (is_at (silo_cmp silo)) es)) false ≡ true
    by true is true at again there = is
    by true is false at again (inl here) =
        let no : true ≡ false = sym (ap is_eq (ap (λ s. silo_cmp silo s) here ∙ tied_itself silo_cmp_total silo)) ∙ at in cc
    by true is false at again (inr later) = again later
    by false is true at again later = absurd (not_at silo e es rising.0 (active_key es silo later) at)
    by false is false at again later = again later

by_look_up : (rows : List (Silo × Status)) (silo : Silo) → is_active_by rows silo ≡ true
    → In silo (keys_of (filter (λ row. is_active row.1) rows))
by_look_up [] silo active = cc
by_look_up (e ∷ es) silo active = by (is_active e.1) refl (is_eq (silo_cmp silo e.0)) refl (λ later. by_look_up es silo later) active
  where
    by : (a : Bool) → is_active e.1 ≡ a → (b : Bool) → is_eq (silo_cmp silo e.0) ≡ b
        → (is_active_by es silo ≡ true → In silo (keys_of (filter (λ row. is_active row.1) es)))
        → option_map_or (λ status. is_active status) (cond b (Some e.1) (lookup (is_at (silo_cmp silo)) es)) false ≡ true
        → In silo (keys_of (cond a (e ∷ filter (λ row. is_active row.1) es) (filter (λ row. is_active row.1) es)))
    by true is true at again active = inl (sym (silo_cmp_exact silo e.0 (Equal-from (silo_cmp silo e.0) at)))
    by true is false at again active = inr (again active)
    by false is true at again active = let no : false ≡ true = sym is ∙ active in cc
    by false is false at again active = again active

-- who isn't listed isn't Active, whether a newer silo of its endpoint is or not
active_listed : (o : Option Status) (outlived : Bool)
    → option_map_or (λ status. is_active status) (or_outlived o outlived) false ≡ option_map_or (λ status. is_active status) o false
active_listed None true = refl
active_listed None false = refl
active_listed (Some status) outlived = refl

pub active_in : (view : ViewValue) → IsByAddress view → (silo : Silo) → In silo (active_silos view) → is_active_in view silo ≡ true
active_in view by_address silo there =
    active_listed (lookup (is_at (silo_cmp silo)) view.rows) (is_outlived silo view.rows)
    ∙ looked_up view.rows (Rising-from_sorted silo_cmp (keys_of view.rows) by_address) silo there

pub In-active : (view : ViewValue) (silo : Silo) → is_active_in view silo ≡ true → In silo (active_silos view)
In-active view silo active =
    by_look_up view.rows silo (sym (active_listed (lookup (is_at (silo_cmp silo)) view.rows) (is_outlived silo view.rows)) ∙ active)

-- ---- the change
abbrev pub changed_points : RingValue → ViewValue → PlacesValue → List Point
changed_points ring view places =
    fold (insert_key point_cmp) (filter (λ p. is_active_in view p.silo) ring.points) (flat_map (silo_points places) (new_silos ring view))

module _ (ring : RingValue) (places : PlacesValue) (was : IsRingBy ring places) (view : ViewValue) (by_address : IsByAddress view) where
  of_earlier : (p : Point) → In p ring.points → In p.silo (active_silos was.0) × In p (silo_points places p.silo)
  of_earlier p there = In-from_points_of was.0 places p (In-from_ring was.0 places p (subst (λ l. In p l) was.1 there))

  in_earlier : (p q : Point) → In q ring.points → q.silo ≡ p.silo → In p (silo_points places p.silo) → In p ring.points
  in_earlier p q there same its =
      subst (λ l. In p l) (sym was.1)
      (In-ring was.0 places p (In-points_of was.0 places p p.silo (subst (λ s. In s (active_silos was.0)) same (of_earlier q there).0) its))

  onward : (p : Point) → In p (changed_points ring view places) → In p (sorted_ring view places)
  onward p there =
      In-ring view places p (by (In-from_inserted point_cmp_total p (flat_map (silo_points places) (new_silos ring view))
      (filter (λ p. is_active_in view p.silo) ring.points) there))
    where
      by : In p (flat_map (silo_points places) (new_silos ring view)) ⊎ In p (filter (λ p. is_active_in view p.silo) ring.points)
          → In p (points_of view places)
      by (inl new) =
          let found = In-from_flat_map (silo_points places) p (new_silos ring view) new in
          In-points_of view places p found.0 (In-from_filter (λ silo. not (is_on_ring ring.points silo)) found.0 (active_silos view)
          found.1).0 found.2
      by (inr old) =
          let kept = In-from_filter (λ p. is_active_in view p.silo) p ring.points old in
          In-points_of view places p p.silo (In-active view p.silo kept.1) (of_earlier p kept.0).1

  backward : (p : Point) → In p (sorted_ring view places) → In p (changed_points ring view places)
  backward p there = by (is_on_ring ring.points p.silo) refl (In-from_points_of view places p (In-from_ring view places p there))
    where
      by : (on : Bool) → is_on_ring ring.points p.silo ≡ on → In p.silo (active_silos view) × In p (silo_points places p.silo)
          → In p (changed_points ring view places)
      by true on its =
          let q = some_of ring.points p.silo on in
          In-start point_cmp_total p (flat_map (silo_points places) (new_silos ring view))
          (filter (λ p. is_active_in view p.silo) ring.points)
          (In-filter (λ p. is_active_in view p.silo) p ring.points (in_earlier p q.0 q.1 q.2 its.1)
          (active_in view by_address p.silo its.0))
      by false on its =
          In-all_inserted point_cmp_total point_cmp_exact p (flat_map (silo_points places) (new_silos ring view))
          (filter (λ p. is_active_in view p.silo) ring.points)
          (In-flat_map (silo_points places) p.silo p (new_silos ring view)
          (In-filter (λ silo. not (is_on_ring ring.points silo)) p.silo (active_silos view) its.0 (ap not on)) its.1)

  in_order : Rising point_cmp ring.points
  in_order = subst (λ l. Rising point_cmp l) (sym was.1) (Rising-inserted point_cmp_total (points_of was.0 places) [] tt)

  pub changed_is_ring : changed_points ring view places ≡ sorted_ring view places
  changed_is_ring =
      same_rising point_cmp_total (changed_points ring view places) (sorted_ring view places)
      (Rising-inserted point_cmp_total (flat_map (silo_points places) (new_silos ring view))
      (filter (λ p. is_active_in view p.silo) ring.points) (Rising-filter point_cmp (λ p. is_active_in view p.silo) ring.points in_order))
      (Rising-inserted point_cmp_total (points_of view places) [] tt) onward backward

  -- ---- where no silo is new, all were added
  added : (silo : Silo) (p : Point) → In p ring.points → p.silo ≡ silo → is_added places silo ≡ true
  added silo p there same = known (places_of places silo) refl (subst (λ s. In p (silo_points places s)) same (of_earlier p there).1)
    where
      known : (its : Option (List ℕ)) → places_of places silo ≡ its → In p (points_if silo its) → is_some its ≡ true
      known None is none = absurd none
      known (Some list) is found = refl

  all_known : (silos : List Silo) → filter (λ silo. not (is_on_ring ring.points silo)) silos ≡ [] → list_all (is_added places) silos ≡ true
  all_known [] none = refl
  all_known (s ∷ ss) none = by (is_on_ring ring.points s) refl (λ rest. all_known ss rest) none
    where
      by : (on : Bool) → is_on_ring ring.points s ≡ on
          → (filter (λ silo. not (is_on_ring ring.points silo)) ss ≡ [] → list_all (is_added places) ss ≡ true)
          → cond (not on) (s ∷ filter (λ silo. not (is_on_ring ring.points silo)) ss)
          (filter (λ silo. not (is_on_ring ring.points silo)) ss) ≡ [] → (is_added places s && list_all (is_added places) ss) ≡ true
      by true on again none =
          let q = some_of ring.points s on in
          ap (λ b. b && list_all (is_added places) ss) (added s q.0 q.1 q.2) ∙ again none
      by false on again none = cc

  pub added_where_none_is_new : new_silos ring view ≡ [] → are_added view places ≡ true
  added_where_none_is_new none = all_known (active_silos view) none
