-- The points of silos and of views: which they are, and that they all differ.
use Rattle.std.proofs.Common.{◌≡◌, ℕ, zero, suc, ◌+◌, ◌<◌, ◌≤◌, List, [], ◌∷◌, ◌++◌, length, get_or, take, map, ◌-◌, cond, Bool, true, false, ◌||◌, ◌&&◌, not, Option, Some, None, refl, sym, ◌∙◌, ap, subst, inl, inr, arith, append_assoc, append-nil}
use Rattle.std.specs.List.{filter, flat_map, enumerate_from, list_all}
use Rattle.std.specs.Map.{keys_of}
use Rattle.std.specs.Cmp.{IsTotalOrder}
use Rattle.std.specs.Ordering.{nat_cmp, on, then_cmp, ordering_then}
use Rattle.std.specs.declared.cmp.Ordering.{Ordering}
use Rattle.std.specs.declared.cmp.Ordering.TheVariants.{Less, Equal}
use Rattle.std.proofs.lemmas.Bool.Decides.{nat_tests}
use Rattle.std.proofs.lemmas.List.{take_more, take_all}
use Rattle.std.proofs.lemmas.Cmp.{then_total, on_total, nat_cmp_total, tied_itself}
use Rattle.silo_address.specs.Silo.{Silo, silo_cmp}
use Rattle.silo_address.proofs.Order.{silo_cmp_total}
use Rattle.membership_view.specs.declared.Status.{Status}
use Rattle.membership_view.specs.Row.{is_active}
use Rattle.membership_view.specs.View.{ViewValue, IsByAddress, active_silos}
use Rattle.hash_ring.specs.declared.point.Point.{Point}
use Rattle.hash_ring.specs.Places.{PlacesValue, places_of, is_added}
use Rattle.hash_ring.specs.Ring.{RingValue, points_at, points_if, silo_points, points_of, is_on_ring, new_silos}
use Rattle.hash_ring.proofs.Members.{In, In-from_flat_map}
use Rattle.hash_ring.proofs.StrictOrder.{Rising, Rising-from_sorted, Rising-filter, Rising-append}

abbrev at_index : Silo → ℕ × ℕ → Point
at_index silo e = record { place = e.1; silo = silo; index = e.0 }

-- a silo's points from an index on
abbrev pub points_from : Silo → ℕ → List ℕ → List Point
points_from silo n places = map (at_index silo) (enumerate_from n places)

points_from_more : (silo : Silo) (n i : ℕ) (places : List ℕ) (d : ℕ) → i < length places
    → points_from silo n (take (i + 1) places) ≡ points_from silo n (take i places) ++ at_index silo (n + i, get_or places i d) ∷ []
points_from_more silo n i [] d within = absurd (omega arith)
points_from_more silo n zero (p ∷ ps) d within = let here : n + 0 ≡ n = omega arith in ap (λ k. at_index silo (k, p) ∷ []) (sym here)
points_from_more silo n (suc i) (p ∷ ps) d within =
    let same : n + 1 + i ≡ n + suc i = omega arith in
    let later = points_from_more silo (n + 1) i ps d (omega arith) in
    let one_on : suc i + 1 ≡ suc (i + 1) = omega arith in
    ap (λ k. points_from silo n (take k (p ∷ ps))) one_on
    ∙ ap (λ l. at_index silo (n, p) ∷ l) (later ∙ ap (λ k. points_from silo (n + 1) (take i ps) ++ at_index silo (k, get_or ps i d) ∷ [])
    same)

pub points_at_more : (silo : Silo) (i place : ℕ) (places : List ℕ) → i < length places → place ≡ get_or places i place
    → points_at silo (take (i + 1) places) ≡ points_at silo (take i places) ++ record { place = place; silo = silo; index = i } ∷ []
points_at_more silo i place places within is =
    let from_zero : 0 + i ≡ i = omega arith in
    points_from_more silo 0 i places place within
    ∙ ap (λ k. points_at silo (take i places) ++ at_index silo (k, get_or places i place) ∷ []) from_zero
    ∙ ap (λ p. points_at silo (take i places) ++ at_index silo (i, p) ∷ []) (sym is)

-- ---- row by row
abbrev pub points_in : PlacesValue → List (Silo × Status) → List Point
points_in places rows = flat_map (silo_points places) (keys_of (filter (λ row. is_active row.1) rows))

pub points_in-append : (places : PlacesValue) (xs ys : List (Silo × Status))
    → points_in places (xs ++ ys) ≡ points_in places xs ++ points_in places ys
points_in-append places [] ys = refl
points_in-append places (x ∷ xs) ys = by (is_active x.1) (points_in-append places xs ys)
  where
    by : (b : Bool) → points_in places (xs ++ ys) ≡ points_in places xs ++ points_in places ys
        → flat_map (silo_points places) (keys_of (cond b (x ∷ filter (λ row. is_active row.1) (xs ++ ys))
        (filter (λ row. is_active row.1) (xs ++ ys))))
        ≡ flat_map (silo_points places) (keys_of (cond b (x ∷ filter (λ row. is_active row.1) xs) (filter (λ row. is_active row.1) xs))) ++
        points_in places ys
    by true later =
        ap (λ l. silo_points places x.0 ++ l) later ∙ sym
        (append_assoc (silo_points places x.0) (points_in places xs) (points_in places ys))
    by false later = later

-- one row more, and all of them
pub one_more : {X : Type 0} (xs : List X) (i : ℕ) (x : X) → i < length xs → x ≡ get_or xs i x → take (i + 1) xs ≡ take i xs ++ x ∷ []
one_more xs i x within is = take_more xs i x within ∙ ap (λ y. take i xs ++ y ∷ []) (sym is)

pub points_in_active : (places : PlacesValue) (rows : List (Silo × Status)) (i : ℕ) (row : Silo × Status) → i < length rows
    → row ≡ get_or rows i row → is_active row.1 ≡ true
    → (before after : List Point) → before ≡ points_in places (take i rows) → after ≡ before ++ silo_points places row.0
    → after ≡ points_in places (take (i + 1) rows)
points_in_active places rows i row within is active before after so_far more =
    more
    ∙ ap (λ l. l ++ silo_points places row.0) so_far
    ∙ ap (λ l. points_in places (take i rows) ++ l) (sym (append-nil (silo_points places row.0))
    ∙ ap (λ b. flat_map (silo_points places) (keys_of (cond b (row ∷ []) []))) (sym active))
    ∙ sym (points_in-append places (take i rows) (row ∷ []))
    ∙ ap (λ l. points_in places l) (sym (one_more rows i row within is))

pub points_in_other : (places : PlacesValue) (rows : List (Silo × Status)) (i : ℕ) (row : Silo × Status) → i < length rows
    → row ≡ get_or rows i row → is_active row.1 ≡ false
    → (before after : List Point) → before ≡ points_in places (take i rows) → after ≡ before → after ≡ points_in places (take (i + 1) rows)
points_in_other places rows i row within is other before after so_far same =
    same
    ∙ so_far
    ∙ sym (append-nil (points_in places (take i rows)))
    ∙ ap (λ l. points_in places (take i rows) ++ l) (ap (λ b. flat_map (silo_points places) (keys_of (cond b (row ∷ []) []))) (sym other))
    ∙ sym (points_in-append places (take i rows) (row ∷ []))
    ∙ ap (λ l. points_in places l) (sym (one_more rows i row within is))

pub points_in_all : (places : PlacesValue) (rows : List (Silo × Status)) (i : ℕ) → length rows ≤ i
    → points_in places (take i rows) ≡ points_in places rows
points_in_all places rows i past = ap (λ l. points_in places l) (take_all i rows past)

-- every Active silo of the rows was added
pub are_added-by_rows : (places : PlacesValue) (rows : List (Silo × Status))
    → list_all (λ row. not (is_active row.1) || is_added places row.0) rows ≡ list_all (is_added places)
    (keys_of (filter (λ row. is_active row.1) rows))
are_added-by_rows places [] = refl
are_added-by_rows places (x ∷ xs) = by (is_active x.1) (are_added-by_rows places xs)
  where
    by : (b : Bool) → list_all (λ row. not (is_active row.1) || is_added places row.0) xs ≡ list_all (is_added places)
        (keys_of (filter (λ row. is_active row.1) xs))
        → ((not b || is_added places x.0) && list_all (λ row. not (is_active row.1) || is_added places row.0) xs)
        ≡ list_all (is_added places) (keys_of (cond b (x ∷ filter (λ row. is_active row.1) xs) (filter (λ row. is_active row.1) xs)))
    by true later = ap (λ b. is_added places x.0 && b) later
    by false later = later

-- ---- points by silo, then index
abbrev pub naming_cmp : Point → Point → Ordering
naming_cmp = then_cmp (on (λ p. p.silo) silo_cmp) (on (λ p. p.index) nat_cmp)

pub naming_cmp_total : IsTotalOrder naming_cmp
naming_cmp_total = then_total (on_total (λ p. p.silo) silo_cmp_total) (on_total (λ p. p.index) nat_cmp_total)

-- which points a silo has
pub record IsAt (silo : Silo) (n : ℕ) (places : List ℕ) (point : Point) : Type 0 where
  pub its : point.silo ≡ silo
  pub from : n ≤ point.index
  pub within : point.index < n + length places
  pub at : get_or places (point.index - n) 0 ≡ point.place

first_at : (silo : Silo) (n place : ℕ) (places : List ℕ) → IsAt silo n (place ∷ places) (at_index silo (n, place))
first_at silo n place places = record {
  its = refl;
  from = omega arith;
  within = omega arith;
  at = let none : n - n ≡ 0 = omega arith in ap (λ k. get_or (place ∷ places) k 0) none;
}

later_at : (silo : Silo) (n place : ℕ) (places : List ℕ) (point : Point) → IsAt silo (n + 1) places point
    → IsAt silo n (place ∷ places) point
later_at silo n place places point later = record {
  its = later.its;
  from = let low = later.from in omega arith;
  within = let high = later.within in omega arith;
  at =
      let low = later.from in let one_on : point.index - n ≡ suc (point.index - (n + 1)) = omega arith in
      ap (λ k. get_or (place ∷ places) k 0) one_on ∙ later.at;
}

pub IsAt-from_In : (silo : Silo) (n : ℕ) (places : List ℕ) (point : Point) → In point (points_from silo n places) → IsAt silo n places point
IsAt-from_In silo n [] point there = absurd there
IsAt-from_In silo n (p ∷ ps) point (inl here) = subst (λ x. IsAt silo n (p ∷ ps) x) here (first_at silo n p ps)
IsAt-from_In silo n (p ∷ ps) point (inr later) = later_at silo n p ps point (IsAt-from_In silo (n + 1) ps point later)

by_index : (silo : Silo) (n place : ℕ) (q : Point) → q.silo ≡ silo → n < q.index → naming_cmp (at_index silo (n, place)) q ≡ Less
by_index silo n place q its above =
    let tied : silo_cmp silo q.silo ≡ Equal = ap (λ s. silo_cmp silo s) its ∙ tied_itself silo_cmp_total silo in
    let less : nat_cmp n q.index ≡ Less = grind (arith, nat_tests) in
    ap (λ r. ordering_then r (nat_cmp n q.index)) tied ∙ less

points_from-rising : (silo : Silo) (n : ℕ) (places : List ℕ) → Rising naming_cmp (points_from silo n places)
points_from-rising silo n [] = tt
points_from-rising silo n (p ∷ ps) = (
  λ q later. let is = IsAt-from_In silo (n + 1) ps q later in
      by_index silo n p q is.its (let low = is.from in omega arith),
  points_from-rising silo (n + 1) ps,
)

points_if-rising : (silo : Silo) (places : Option (List ℕ)) → Rising naming_cmp (points_if silo places)
points_if-rising silo None = tt
points_if-rising silo (Some places) = points_from-rising silo 0 places

its_if : (silo : Silo) (places : Option (List ℕ)) (q : Point) → In q (points_if silo places) → q.silo ≡ silo
its_if silo None q there = absurd there
its_if silo (Some places) q there = (IsAt-from_In silo 0 places q there).its

-- a silo's points are its own
pub silo_of-silo_points : (places : PlacesValue) (silo : Silo) (q : Point) → In q (silo_points places silo) → q.silo ≡ silo
silo_of-silo_points places silo q there = its_if silo (places_of places silo) q there

by_silo : (p q : Point) → silo_cmp p.silo q.silo ≡ Less → naming_cmp p q ≡ Less
by_silo p q less = ap (λ r. ordering_then r (nat_cmp p.index q.index)) less

flat_rising : (places : PlacesValue) (silos : List Silo) → Rising silo_cmp silos → Rising naming_cmp (flat_map (silo_points places) silos)
flat_rising places [] rising = tt
flat_rising places (s ∷ ss) rising =
    Rising-append naming_cmp (silo_points places s) (flat_map (silo_points places) ss) (points_if-rising s (places_of places s))
    (flat_rising places ss rising.1)
    (λ p q here later.
    let found = In-from_flat_map (silo_points places) q ss later in
    let mine : p.silo ≡ s = silo_of-silo_points places s p here in
    let its : q.silo ≡ found.0 = silo_of-silo_points places found.0 q found.2 in
    by_silo p q (ap (λ a. silo_cmp a q.silo) mine ∙ ap (λ b. silo_cmp s b) its ∙ rising.0 found.0 found.1))

In-keys_of_filter : (y : Silo) (p : Silo × Status → Bool) (rows : List (Silo × Status)) → In y (keys_of (filter p rows))
    → In y (keys_of rows)
In-keys_of_filter y p [] there = absurd there
In-keys_of_filter y p (x ∷ xs) there = by (λ later. In-keys_of_filter y p xs later) (p x) there
  where
    by : (In y (keys_of (filter p xs)) → In y (keys_of xs)) → (b : Bool) → In y (keys_of (cond b (x ∷ filter p xs) (filter p xs)))
        → In y (keys_of (x ∷ xs))
    by again true (inl here) = inl here
    by again true (inr later) = inr (again later)
    by again false later = inr (again later)

active_rising : (p : Silo × Status → Bool) (rows : List (Silo × Status)) → Rising silo_cmp (keys_of rows)
    → Rising silo_cmp (keys_of (filter p rows))
active_rising p [] rising = tt
active_rising p (x ∷ xs) rising = by (p x) (active_rising p xs rising.1)
  where
    by : (b : Bool) → Rising silo_cmp (keys_of (filter p xs)) → Rising silo_cmp (keys_of (cond b (x ∷ filter p xs) (filter p xs)))
    by true rest = (λ y there. rising.0 y (In-keys_of_filter y p xs there), rest)
    by false rest = rest

-- the points of a view all differ, by silo or by index
pub points_of-rising : (view : ViewValue) (places : PlacesValue) → IsByAddress view → Rising naming_cmp (points_of view places)
points_of-rising view places by_address =
    flat_rising places (active_silos view) (active_rising (λ row. is_active row.1) view.rows
    (Rising-from_sorted silo_cmp (keys_of view.rows) by_address))

-- and so do those of its new silos
pub new_points-rising : (ring : RingValue) (view : ViewValue) (places : PlacesValue) → IsByAddress view
    → Rising naming_cmp (flat_map (silo_points places) (new_silos ring view))
new_points-rising ring view places by_address =
    flat_rising places (new_silos ring view)
    (Rising-filter silo_cmp (λ silo. not (is_on_ring ring.points silo)) (active_silos view)
    (active_rising (λ row. is_active row.1) view.rows (Rising-from_sorted silo_cmp (keys_of view.rows) by_address)))
