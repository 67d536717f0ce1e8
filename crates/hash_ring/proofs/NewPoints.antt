-- The points of the silos of a view that have none yet, row by row.
use Rattle.std.proofs.Common.{◌≡◌, ℕ, ◌+◌, ◌<◌, ◌≤◌, List, [], ◌∷◌, ◌++◌, length, get_or, take, Bool, true, false, not, ◌&&◌, cond, refl, sym, ◌∙◌, ap, subst, append_assoc, append-nil}
use Rattle.std.specs.List.{filter, flat_map}
use Rattle.std.specs.Map.{keys_of}
use Rattle.std.proofs.lemmas.List.{take_all}
use Rattle.silo_address.specs.Silo.{Silo}
use Rattle.membership_view.specs.declared.Status.{Status}
use Rattle.membership_view.specs.Row.{is_active}
use Rattle.membership_view.specs.View.{ViewValue}
use Rattle.hash_ring.specs.declared.point.Point.{Point}
use Rattle.hash_ring.specs.Places.{PlacesValue}
use Rattle.hash_ring.specs.Ring.{RingValue, silo_points, is_on_ring, new_silos}
use Rattle.hash_ring.proofs.Members.{In, In-filter, In-map, In-from_place}
use Rattle.hash_ring.proofs.PointsOfViews.{one_more}

-- whether a row's silo is Active and has no point
abbrev pub is_new_row : List Point → Silo × Status → Bool
is_new_row points row = is_active row.1 && not (is_on_ring points row.0)

abbrev pub new_in : PlacesValue → List Point → List (Silo × Status) → List Point
new_in places points rows = flat_map (silo_points places) (keys_of (filter (is_new_row points) rows))

new_in-append : (places : PlacesValue) (points : List Point) (xs ys : List (Silo × Status))
    → new_in places points (xs ++ ys) ≡ new_in places points xs ++ new_in places points ys
new_in-append places points [] ys = refl
new_in-append places points (x ∷ xs) ys = by (is_new_row points x) (new_in-append places points xs ys)
  where
    by : (b : Bool) → new_in places points (xs ++ ys) ≡ new_in places points xs ++ new_in places points ys
        → flat_map (silo_points places) (keys_of (cond b (x ∷ filter (is_new_row points) (xs ++ ys))
        (filter (is_new_row points) (xs ++ ys))))
        ≡ flat_map (silo_points places) (keys_of (cond b (x ∷ filter (is_new_row points) xs) (filter (is_new_row points) xs))) ++ new_in
        places points ys
    by true later =
        ap (λ l. silo_points places x.0 ++ l) later ∙ sym
        (append_assoc (silo_points places x.0) (new_in places points xs) (new_in places points ys))
    by false later = later

pub new_in_new : (places : PlacesValue) (points : List Point) (rows : List (Silo × Status)) (i : ℕ) (row : Silo × Status) → i < length rows
    → row ≡ get_or rows i row → is_new_row points row ≡ true
    → (before after : List Point) → before ≡ new_in places points (take i rows) → after ≡ before ++ silo_points places row.0
    → after ≡ new_in places points (take (i + 1) rows)
new_in_new places points rows i row within is new before after so_far more =
    more
    ∙ ap (λ l. l ++ silo_points places row.0) so_far
    ∙ ap (λ l. new_in places points (take i rows) ++ l)
    (sym (append-nil (silo_points places row.0)) ∙ ap (λ b. flat_map (silo_points places) (keys_of (cond b (row ∷ []) []))) (sym new))
    ∙ sym (new_in-append places points (take i rows) (row ∷ []))
    ∙ ap (λ l. new_in places points l) (sym (one_more rows i row within is))

pub new_in_other : (places : PlacesValue) (points : List Point) (rows : List (Silo × Status)) (i : ℕ) (row : Silo × Status)
    → i < length rows → row ≡ get_or rows i row → is_new_row points row ≡ false
    → (before after : List Point) → before ≡ new_in places points (take i rows) → after ≡ before
    → after ≡ new_in places points (take (i + 1) rows)
new_in_other places points rows i row within is other before after so_far same =
    same
    ∙ so_far
    ∙ sym (append-nil (new_in places points (take i rows)))
    ∙ ap (λ l. new_in places points (take i rows) ++ l)
    (ap (λ b. flat_map (silo_points places) (keys_of (cond b (row ∷ []) []))) (sym other))
    ∙ sym (new_in-append places points (take i rows) (row ∷ []))
    ∙ ap (λ l. new_in places points l) (sym (one_more rows i row within is))

same_silos : (points : List Point) (rows : List (Silo × Status))
    → keys_of (filter (is_new_row points) rows) ≡ filter (λ silo. not (is_on_ring points silo))
    (keys_of (filter (λ row. is_active row.1) rows))
same_silos points [] = refl
same_silos points (x ∷ xs) = by (is_active x.1) (not (is_on_ring points x.0)) refl (same_silos points xs)
  where
    by : (a b : Bool) → not (is_on_ring points x.0) ≡ b
        → keys_of (filter (is_new_row points) xs) ≡ filter (λ silo. not (is_on_ring points silo))
        (keys_of (filter (λ row. is_active row.1) xs))
        → keys_of (cond (a && b) (x ∷ filter (is_new_row points) xs) (filter (is_new_row points) xs))
        ≡ filter (λ silo. not (is_on_ring points silo))
        (keys_of (cond a (x ∷ filter (λ row. is_active row.1) xs) (filter (λ row. is_active row.1) xs)))
    by true true is later =
        ap (λ l. x.0 ∷ l) later ∙ sym (ap (λ t. cond t (x.0 ∷ filter (λ silo. not (is_on_ring points silo))
        (keys_of (filter (λ row. is_active row.1) xs)))
        (filter (λ silo. not (is_on_ring points silo)) (keys_of (filter (λ row. is_active row.1) xs)))) is)
    by true false is later =
        later ∙ sym (ap (λ t. cond t (x.0 ∷ filter (λ silo. not (is_on_ring points silo)) (keys_of (filter (λ row. is_active row.1) xs)))
        (filter (λ silo. not (is_on_ring points silo)) (keys_of (filter (λ row. is_active row.1) xs)))) is)
    by false b is later = later

pub new_in_all : (places : PlacesValue) (ring : RingValue) (view : ViewValue)
    → new_in places ring.points view.rows ≡ flat_map (silo_points places) (new_silos ring view)
new_in_all places ring view = ap (λ l. flat_map (silo_points places) l) (same_silos ring.points view.rows)

-- a new row's silo is one of the new silos
pub some_new : (ring : RingValue) (view : ViewValue) (i : ℕ) (row : Silo × Status) → i < length view.rows → row ≡ get_or view.rows i row
    → is_new_row ring.points row ≡ true → new_silos ring view ≡ [] → ⊥
some_new ring view i row within is new none =
    let there : In row.0 (keys_of (filter (is_new_row ring.points) view.rows)) = In-map (λ (e : Silo × Status). e.0) row (filter (is_new_row ring.points) view.rows) (In-filter (is_new_row ring.points) row view.rows (In-from_place row view.rows i within (sym is)) new) in
    subst (λ l. In row.0 l) (same_silos ring.points view.rows ∙ none) there

pub new_in_end : (places : PlacesValue) (points : List Point) (rows : List (Silo × Status)) (i : ℕ) → length rows ≤ i
    → new_in places points (take i rows) ≡ new_in places points rows
new_in_end places points rows i past = ap (λ l. new_in places points l) (take_all i rows past)
