-- Points of which each silo has all of its own or none.
use Rattle.std.proofs.Common.{◌≡◌, ◌⊎◌, ℕ, List, [], ◌∷◌, Bool, true, false, not, ◌&&◌, ◌||◌, cond, Option, Some, None, refl, sym, ◌∙◌, ap, subst, inl, inr, ⊎_elim}
use Rattle.std.specs.Bool.{Decides}
use Rattle.std.specs.List.{Contains, filter, slice_get}
use Rattle.std.specs.Map.{lookup, keys_of}
use Rattle.std.specs.BTreeMap.{is_at}
use Rattle.std.specs.Ordering.{is_eq}
use Rattle.std.proofs.lemmas.Bool.Decides.{same_from_decides}
use Rattle.std.proofs.lemmas.Option.{same_Some}
use Rattle.std.proofs.lemmas.Bool.{or_right}
use Rattle.texts.proofs.Orderings.{Equal-from}
use Rattle.silo_address.specs.Silo.{Silo, silo_cmp, silo_eq}
use Rattle.silo_address.proofs.Order.{silo_cmp_exact}
use Rattle.silo_address.proofs.Same.{Decides-silo}
use Rattle.membership_view.specs.View.{ViewValue, active_silos}
use Rattle.hash_ring.specs.declared.point.Point.{Point}
use Rattle.hash_ring.specs.Point.{point_cmp}
use Rattle.hash_ring.specs.Places.{PlacesValue, places_of}
use Rattle.hash_ring.specs.Ring.{points_if, silo_points, points_of, sorted_ring, is_on_ring}
use Rattle.hash_ring.specs.Search.{HasWholeSilos}
use Rattle.hash_ring.proofs.Members.{In, In-from_Contains, Contains-from_In, In-filter, In-from_filter, In-flat_map, In-from_flat_map}
use Rattle.hash_ring.proofs.Order.{point_cmp_total, point_cmp_exact}
use Rattle.hash_ring.proofs.StrictOrder.{Rising-from_sorted, sorted-from_Rising, Rising-filter, Rising-inserted, In-all_inserted, In-from_inserted}
use Rattle.hash_ring.proofs.PointsOfViews.{silo_of-silo_points}

-- ---- which silos have points
pub some_of : (points : List Point) (silo : Silo) → is_on_ring points silo ≡ true → (q : Point) × In q points × (q.silo ≡ silo)
some_of [] silo on = cc
some_of (p ∷ ps) silo on = by (silo_eq p.silo silo) refl (λ later. some_of ps silo later) on
  where
    by : (b : Bool) → silo_eq p.silo silo ≡ b → (is_on_ring ps silo ≡ true → (q : Point) × In q ps × (q.silo ≡ silo))
        → (b || is_on_ring ps silo) ≡ true
        → (q : Point) × In q (p ∷ ps) × (q.silo ≡ silo)
    by true its again on = (p, inl refl, (Decides-silo p.silo silo).0 its)
    by false its again on = let found = again on in (found.0, inr found.1, found.2)

pub has_some : (points : List Point) (q : Point) (silo : Silo) → In q points → q.silo ≡ silo → is_on_ring points silo ≡ true
has_some [] q silo there its = absurd there
has_some (p ∷ ps) q silo (inl here) its =
    ap (λ b. b || is_on_ring ps silo) ((Decides-silo p.silo silo).1 (ap (λ (x : Point). x.silo) here ∙ its))
has_some (p ∷ ps) q silo (inr later) its = or_right (silo_eq p.silo silo) (is_on_ring ps silo) (has_some ps q silo later its)

first_in : (points : List Point) (first : Point) → slice_get points 0 ≡ Some first → In first points
first_in [] first is = cc
first_in (p ∷ ps) first is = inl (same_Some p first is)

nothing_in : (points : List Point) → slice_get points 0 ≡ None → (q : Point) → In q points → ⊥
nothing_in [] is q there = there
nothing_in (p ∷ ps) is q there = cc

-- the first point of a silo tells whether it has points
pub by_first : (places : PlacesValue) (points : List Point) → HasWholeSilos places points → (silo : Silo) (first : Point)
    → slice_get (silo_points places silo) 0 ≡ Some first
    → (found : Bool) → Decides found (Contains points first) → found ≡ is_on_ring points silo
by_first places points whole silo first is found decides =
    let in_silo : In first (silo_points places silo) = first_in (silo_points places silo) first is in
    same_from_decides found (is_on_ring points silo) decides (
      λ on.
          let q = some_of points silo on in
          whole.whole q.0 first (Contains-from_In q.0 points q.1)
          (subst (λ s. Contains (silo_points places s) first) (sym q.2) (Contains-from_In first (silo_points places silo) in_silo)),
      λ there. has_some points first silo (In-from_Contains first points there) (silo_of-silo_points places silo first in_silo),
    )

not_true : (b : Bool) → (b ≡ true → ⊥) → false ≡ b
not_true true never = absurd (never refl)
not_true false never = refl

pub without_first : (places : PlacesValue) (points : List Point) → HasWholeSilos places points → (silo : Silo)
    → slice_get (silo_points places silo) 0 ≡ None → false ≡ is_on_ring points silo
without_first places points whole silo is =
    not_true (is_on_ring points silo) (λ on.
    let q = some_of points silo on in
    let its = In-from_Contains q.0 (silo_points places q.0.silo) (whole.their q.0 (Contains-from_In q.0 points q.1)) in
    nothing_in (silo_points places silo) is q.0 (subst (λ s. In q.0 (silo_points places s)) q.2 its))

-- ---- a ring has them so
pub In-ring : (view : ViewValue) (places : PlacesValue) (p : Point) → In p (points_of view places) → In p (sorted_ring view places)
In-ring view places p there = In-all_inserted point_cmp_total point_cmp_exact p (points_of view places) [] there

pub In-from_ring : (view : ViewValue) (places : PlacesValue) (p : Point) → In p (sorted_ring view places) → In p (points_of view places)
In-from_ring view places p there =
    ⊎_elim (λ one. one) (λ none. absurd none) (In-from_inserted point_cmp_total p (points_of view places) [] there)

-- a point of a view is one of its silo, which is Active there
pub In-from_points_of : (view : ViewValue) (places : PlacesValue) (p : Point) → In p (points_of view places)
    → In p.silo (active_silos view) × In p (silo_points places p.silo)
In-from_points_of view places p there =
    let found = In-from_flat_map (silo_points places) p (active_silos view) there in
    let its : p.silo ≡ found.0 = silo_of-silo_points places found.0 p found.2 in
    (subst (λ s. In s (active_silos view)) (sym its) found.1, subst (λ s. In p (silo_points places s)) (sym its) found.2)

pub In-points_of : (view : ViewValue) (places : PlacesValue) (p : Point) (silo : Silo) → In silo (active_silos view)
    → In p (silo_points places silo) → In p (points_of view places)
In-points_of view places p silo active its = In-flat_map (silo_points places) silo p (active_silos view) active its

pub ring_has_whole : (view : ViewValue) (places : PlacesValue) → HasWholeSilos places (sorted_ring view places)
ring_has_whole view places = record {
  in_order = sorted-from_Rising point_cmp (sorted_ring view places) (Rising-inserted point_cmp_total (points_of view places) [] tt);
  their = λ p there.
      Contains-from_In p (silo_points places p.silo) (In-from_points_of view places p
      (In-from_ring view places p (In-from_Contains p (sorted_ring view places) there))).1;
  whole = λ p q there its.
      let active = (In-from_points_of view places p (In-from_ring view places p (In-from_Contains p (sorted_ring view places) there))).0 in
      Contains-from_In q (sorted_ring view places) (In-ring view places q
      (In-points_of view places q p.silo active (In-from_Contains q (silo_points places p.silo) its)));
}

-- ---- and so have some silos of it
pub some_silos : (places : PlacesValue) (points : List Point) (f : Silo → Bool) → HasWholeSilos places points
    → HasWholeSilos places (filter (λ p. f p.silo) points)
some_silos places points f whole = record {
  in_order =
      sorted-from_Rising point_cmp (filter (λ p. f p.silo) points)
      (Rising-filter point_cmp (λ p. f p.silo) points (Rising-from_sorted point_cmp points whole.in_order));
  their = λ p there. whole.their p (Contains-from_In p points (kept p (In-from_Contains p (filter (λ p. f p.silo) points) there)).0);
  whole = λ p q there its.
      let one = kept p (In-from_Contains p (filter (λ p. f p.silo) points) there) in
      let same : q.silo ≡ p.silo = silo_of-silo_points places p.silo q (In-from_Contains q (silo_points places p.silo) its) in
      Contains-from_In q (filter (λ p. f p.silo) points)
      (In-filter (λ p. f p.silo) q points (In-from_Contains q points (whole.whole p q (Contains-from_In p points one.0) its))
      (ap f same ∙ one.1));
}
  where
    kept : (p : Point) → In p (filter (λ p. f p.silo) points) → In p points × (f p.silo ≡ true)
    kept p there = In-from_filter (λ p. f p.silo) p points there

-- ---- silos taken out one after another, until only those are left that pass
pub filter_of_filter : (a b : Point → Bool) (points : List Point) → ((p : Point) → a p ≡ true → b p ≡ true)
    → filter a (filter b points) ≡ filter a points
filter_of_filter a b [] passes = refl
filter_of_filter a b (p ∷ ps) passes = by (b p) refl (a p) refl (filter_of_filter a b ps passes)
  where
    by : (x : Bool) → b p ≡ x → (y : Bool) → a p ≡ y → filter a (filter b ps) ≡ filter a ps
        → filter a (cond x (p ∷ filter b ps) (filter b ps)) ≡ cond y (p ∷ filter a ps) (filter a ps)
    by true is true its later = ap (λ t. cond t (p ∷ filter a (filter b ps)) (filter a (filter b ps))) its ∙ ap (λ l. p ∷ l) later
    by true is false its later = ap (λ t. cond t (p ∷ filter a (filter b ps)) (filter a (filter b ps))) its ∙ later
    by false is true its later = let no : false ≡ true = sym is ∙ passes p its in cc
    by false is false its later = later

pub filter_all : (a : Point → Bool) (points : List Point) → ((p : Point) → In p points → a p ≡ true) → filter a points ≡ points
filter_all a [] each = refl
filter_all a (p ∷ ps) each =
    ap (λ b. cond b (p ∷ filter a ps) (filter a ps)) (each p (inl refl)) ∙ ap (λ l. p ∷ l) (filter_all a ps (λ q there. each q (inr there)))

-- what is left to do: each point is of a silo that passes, or of one of these
abbrev pub AreLeft : (Silo → Bool) → List Point → List Silo → Type 0
AreLeft passes points silos = (p : Point) → Contains points p → (passes p.silo ≡ true) ⊎ In p.silo silos

In-found : (silo : Silo) (list : List ℕ) (es : List (Silo × List ℕ)) → lookup (is_at (silo_cmp silo)) es ≡ Some list → In silo (keys_of es)
In-found silo list [] is = cc
In-found silo list (e ∷ es) is = by (λ later. In-found silo list es later) (is_eq (silo_cmp silo e.0)) refl is
  where
    by : (lookup (is_at (silo_cmp silo)) es ≡ Some list → In silo (keys_of es)) → (b : Bool) → is_eq (silo_cmp silo e.0) ≡ b
        → cond b (Some e.1) (lookup (is_at (silo_cmp silo)) es) ≡ Some list
        → In silo (keys_of (e ∷ es))
    by again true at is = inl (sym (silo_cmp_exact silo e.0 (Equal-from (silo_cmp silo e.0) at)))
    by again false at is = inr (again is)

known_if : (places : PlacesValue) (silo : Silo) (its : Option (List ℕ)) → places_of places silo ≡ its → (p : Point)
    → In p (points_if silo its) → In silo (keys_of places.entries)
known_if places silo None is p there = absurd there
known_if places silo (Some list) is p there = In-found silo list places.entries is

pub all_left : (passes : Silo → Bool) (places : PlacesValue) (points : List Point) → HasWholeSilos places points
    → AreLeft passes points (keys_of places.entries)
all_left passes places points whole p there =
    inr (known_if places p.silo (places_of places p.silo) refl p (In-from_Contains p (silo_points places p.silo) (whole.their p there)))

other_than : (a b : Silo) → not (silo_eq a b) ≡ true → a ≡ b → ⊥
other_than a b differs same =
    let yes : silo_eq a b ≡ true = (Decides-silo a b).1 same in let no : false ≡ true = sym (ap not yes) ∙ differs in cc

pub left_without : (passes : Silo → Bool) (points : List Point) (silo : Silo) (silos : List Silo) → AreLeft passes points (silo ∷ silos)
    → AreLeft passes (filter (λ p. not (silo_eq p.silo silo)) points) silos
left_without passes points silo silos left p there =
    let kept = In-from_filter (λ p. not (silo_eq p.silo silo)) p points (In-from_Contains p (filter (λ p. not (silo_eq p.silo silo)) points) there) in
    ⊎_elim (λ passed. inl passed) (λ later. ⊎_elim (λ here. absurd (other_than p.silo silo kept.1 (sym here))) (λ l. inr l) later)
    (left p (Contains-from_In p points kept.0))

passes_if : (a on : Bool) → (not a && on) ≡ false → on ≡ true → a ≡ true
passes_if true on stays there = refl
passes_if false on stays there = let no : true ≡ false = sym there ∙ stays in cc

pub left_as_it_is : (passes : Silo → Bool) (points : List Point) (silo : Silo) (silos : List Silo)
    → (not (passes silo) && is_on_ring points silo) ≡ false
    → AreLeft passes points (silo ∷ silos) → AreLeft passes points silos
left_as_it_is passes points silo silos stays left p there =
    ⊎_elim (λ passed. inl passed)
    (λ later. ⊎_elim (λ here. inl (ap passes (sym here)
    ∙ passes_if (passes silo) (is_on_ring points silo) stays (has_some points p silo (In-from_Contains p points there) (sym here))))
    (λ l. inr l) later)
    (left p there)

gone_fails : (a on : Bool) → (not a && on) ≡ true → a ≡ false
gone_fails true on gone = sym gone
gone_fails false on gone = refl

pub passing_stay : (passes : Silo → Bool) (points : List Point) (silo : Silo) → (not (passes silo) && is_on_ring points silo) ≡ true
    → filter (λ p. passes p.silo) (filter (λ p. not (silo_eq p.silo silo)) points) ≡ filter (λ p. passes p.silo) points
passing_stay passes points silo gone =
    filter_of_filter (λ p. passes p.silo) (λ p. not (silo_eq p.silo silo)) points (λ p passed.
    differs p (silo_eq p.silo silo) refl (gone_fails (passes silo) (is_on_ring points silo) gone) passed)
  where
    differs : (p : Point) (b : Bool) → silo_eq p.silo silo ≡ b → passes silo ≡ false → passes p.silo ≡ true → not b ≡ true
    differs p true is fails passed = let no : false ≡ true = sym fails ∙ ap passes (sym ((Decides-silo p.silo silo).0 is)) ∙ passed in cc
    differs p false is fails passed = refl

pub none_left : (passes : Silo → Bool) (points : List Point) → AreLeft passes points [] → filter (λ p. passes p.silo) points ≡ points
none_left passes points left =
    filter_all (λ p. passes p.silo) points (λ p there. ⊎_elim (λ passed. passed) (λ none. absurd none)
    (left p (Contains-from_In p points there)))
