-- The steps at which a range is cut: they rise, they lie inside the range, and they are those of the places.
use Rattle.std.proofs.Common.{◌≡◌, ℕ, ◌<◌, ◌&&◌, ◌==◌, ◌⊎◌, nat_lt, Bool, true, false, cond, List, [], ◌∷◌, fold, All, Contains, refl, sym, subst, arith, inl, inr}
use Rattle.std.specs.BTreeSet.{insert_key}
use Rattle.std.specs.Ordering.{nat_cmp}
use Rattle.std.proofs.lemmas.Bool.{cases_lt, lt-ltb, le-ltb, ltb-true}
use Rattle.std.proofs.lemmas.Bool.Decides.{nat_tests}
use Rattle.std.proofs.lemmas.List.Elements.{All-nil, All-cons, All-head, All-tail, All-contains_itself}
use Rattle.ring_range.specs.Range.{circle, Range, distance, ahead}
use Rattle.ring_range.specs.Cut.{with_cut, cut_steps}
use Rattle.ring_range.proofs.Circle.{ahead-distance}

-- the numbers rise from one to the next, above `from` and below `size`
abbrev pub Rises : ℕ → List ℕ → ℕ → Type 0
Rises from [] size = from < size
Rises from (step ∷ steps) size = (from < step) × Rises step steps size

-- the number is among them
abbrev pub In : ℕ → List ℕ → Type 0
In number [] = ⊥
In number (step ∷ steps) = (step ≡ number) ⊎ In number steps

-- each of them is so
abbrev pub Each : (ℕ → Type 0) → List ℕ → Type 0
Each P [] = Unit {0}
Each P (step ∷ steps) = P step × Each P steps

-- `insert_key` by its cases
insert_below : (x k : ℕ) (xs : List ℕ) → k < x → insert_key nat_cmp (x ∷ xs) k ≡ k ∷ x ∷ xs
insert_below x k xs lt = rw (lt-ltb k x lt) refl

insert_same : (x k : ℕ) (xs : List ℕ) → k ≡ x → insert_key nat_cmp (x ∷ xs) k ≡ x ∷ xs
insert_same x k xs e = rw (le-ltb k x (omega arith), same_test k x e) refl
  where
    same_test : (k x : ℕ) → k ≡ x → (k == x) ≡ true
    same_test k x e = grind (arith, nat_tests)

insert_above : (x k : ℕ) (xs : List ℕ) → x < k → insert_key nat_cmp (x ∷ xs) k ≡ x ∷ insert_key nat_cmp xs k
insert_above x k xs lt = rw (le-ltb k x (omega arith), other_test k x lt) refl
  where
    other_test : (k x : ℕ) → x < k → (k == x) ≡ false
    other_test k x lt = grind (arith, nat_tests)

cases : (k x : ℕ) → (k < x) ⊎ ((k ≡ x) ⊎ (x < k))
cases k x =
    elim (cases_lt k x) [ inl lt ↦ inl lt | inr le ↦ elim (cases_lt x k) [ inl lt ↦ inr (inr lt) | inr ge ↦ inr (inl (omega arith)) ] ]

pub Rises-below : (from : ℕ) (steps : List ℕ) (size : ℕ) → Rises from steps size → from < size
Rises-below from [] size r = r
Rises-below from (step ∷ steps) size r = let on : step < size = Rises-below step steps size r.1 in let lt = r.0 in omega arith

-- what is among them is above `from`
pub In-above : (from : ℕ) (steps : List ℕ) (size n : ℕ) → Rises from steps size → In n steps → from < n
In-above from [] size n r h = absurd h
In-above from (step ∷ steps) size n r (inl e) = let lt = r.0 in omega arith
In-above from (step ∷ steps) size n r (inr h) = let above : step < n = In-above step steps size n r.1 h in let lt = r.0 in omega arith

pub Each-weaker : (P Q : ℕ → Type 0) → ((n : ℕ) → P n → Q n) → (steps : List ℕ) → Each P steps → Each Q steps
Each-weaker P Q f [] all = tt
Each-weaker P Q f (step ∷ steps) all = (f step all.0, Each-weaker P Q f steps all.1)

Rises-insert : (from : ℕ) (steps : List ℕ) (size k : ℕ) → from < k → k < size → Rises from steps size
    → Rises from (insert_key nat_cmp steps k) size
Rises-insert from [] size k lt below r = (lt, below)
Rises-insert from (x ∷ xs) size k lt below r =
    let P : List ℕ → Type 0 = λ steps. Rises from steps size in
    elim (cases k x) [
      | inl less ↦ subst P (sym (insert_below x k xs less)) (lt, (less, r.1))
      | inr (inl same) ↦ subst P (sym (insert_same x k xs same)) r
      | inr (inr more) ↦ subst P (sym (insert_above x k xs more)) (r.0, Rises-insert x xs size k more below r.1)
    ]

In-insert : (steps : List ℕ) (k : ℕ) → In k (insert_key nat_cmp steps k)
In-insert [] k = inl refl
In-insert (x ∷ xs) k =
    let P : List ℕ → Type 0 = λ steps. In k steps in
    elim (cases k x) [
      | inl less ↦ subst P (sym (insert_below x k xs less)) (inl refl)
      | inr (inl same) ↦ subst P (sym (insert_same x k xs same)) (inl (sym same))
      | inr (inr more) ↦ subst P (sym (insert_above x k xs more)) (inr (In-insert xs k))
    ]

later : (x : ℕ) (xs ys : List ℕ) (n : ℕ) → (In n xs → In n ys) → In n (x ∷ xs) → In n (x ∷ ys)
later x xs ys n more (inl e) = inl e
later x xs ys n more (inr h) = inr (more h)

In-kept : (steps : List ℕ) (k n : ℕ) → In n steps → In n (insert_key nat_cmp steps k)
In-kept [] k n h = absurd h
In-kept (x ∷ xs) k n h =
    let P : List ℕ → Type 0 = λ steps. In n steps in
    elim (cases k x) [
      | inl less ↦ subst P (sym (insert_below x k xs less)) (inr h)
      | inr (inl same) ↦ subst P (sym (insert_same x k xs same)) h
      | inr (inr more) ↦ subst P (sym (insert_above x k xs more)) (later x xs (insert_key nat_cmp xs k) n (In-kept xs k n) h)
    ]

Each-insert : (P : ℕ → Type 0) (steps : List ℕ) (k : ℕ) → P k → Each P steps → Each P (insert_key nat_cmp steps k)
Each-insert P [] k h all = (h, tt)
Each-insert P (x ∷ xs) k h all =
    let Q : List ℕ → Type 0 = λ steps. Each P steps in
    elim (cases k x) [
      | inl less ↦ subst Q (sym (insert_below x k xs less)) (h, all)
      | inr (inl same) ↦ subst Q (sym (insert_same x k xs same)) all
      | inr (inr more) ↦ subst Q (sym (insert_above x k xs more)) (all.0, Each-insert P xs k h all.1)
    ]

-- one more place by its two cases
with_cut_cases : (range : Range) (steps : List ℕ) (place : ℕ) (P : List ℕ → Type 0)
    → (0 < distance range.start place → distance range.start place < range.size → P (insert_key nat_cmp steps (distance range.start place)))
    → P steps → P (with_cut range steps place)
with_cut_cases range steps place P cut stay =
    by_test P (nat_lt 0 (distance range.start place)) (nat_lt (distance range.start place) range.size) _ _
    (λ a b. cut (ltb-true _ _ a) (ltb-true _ _ b)) stay
  where
    by_test : (P : List ℕ → Type 0) (a b : Bool) (x y : List ℕ) → (a ≡ true → b ≡ true → P x) → P y → P (cond (a && b) x y)
    by_test P true true x y cut stay = cut refl refl
    by_test P true false x y cut stay = stay
    by_test P false b x y cut stay = stay

-- what holds of no steps, and with one more cut, holds of all
steps_by : (range : Range) (P : List ℕ → Type 0) (places steps : List ℕ)
    → ((steps : List ℕ) (place : ℕ) → P steps → P (with_cut range steps place)) → P steps → P (fold (with_cut range) steps places)
steps_by range P [] steps more now = now
steps_by range P (place ∷ places) steps more now = steps_by range P places (with_cut range steps place) more (more steps place now)

pub Rises-cut_steps : (range : Range) (places : List ℕ) → 0 < range.size → Rises 0 (cut_steps range places) range.size
Rises-cut_steps range places some =
    let P : List ℕ → Type 0 = λ steps. Rises 0 steps range.size in
    steps_by range P places [] (λ steps place r. with_cut_cases range steps place P
    (λ up below. Rises-insert 0 steps range.size (distance range.start place) up below r) r) some

kept : (range : Range) (n : ℕ) (places steps : List ℕ) → In n steps → In n (fold (with_cut range) steps places)
kept range n places steps h =
    let P : List ℕ → Type 0 = λ steps. In n steps in
    steps_by range P places steps (λ steps place h. with_cut_cases range steps place P
    (λ up below. In-kept steps (distance range.start place) n h) h) h

-- each place that lies inside is among the steps
cut_at_place : (range : Range) (steps : List ℕ) (place : ℕ) → 0 < distance range.start place → distance range.start place < range.size
    → In (distance range.start place) (with_cut range steps place)
cut_at_place range steps place up below =
    rw (lt-ltb 0 (distance range.start place) up, lt-ltb (distance range.start place) range.size below)
    (In-insert steps (distance range.start place))

abbrev IsCutIn : Range → List ℕ → ℕ → Type 0
IsCutIn range steps place = 0 < distance range.start place → distance range.start place < range.size → In (distance range.start place) steps

places_in : (range : Range) (places steps : List ℕ) → All (IsCutIn range (fold (with_cut range) steps places)) places
places_in range [] steps = All-nil (IsCutIn range steps)
places_in range (place ∷ places) steps =
    All-cons (IsCutIn range (fold (with_cut range) (with_cut range steps place) places)) place places
    (λ up below. kept range (distance range.start place) places (with_cut range steps place) (cut_at_place range steps place up below))
    (places_in range places (with_cut range steps place))

pub In-cut_steps : (range : Range) (places : List ℕ)
    → All (λ place. 0 < distance range.start place → distance range.start place < range.size
    → In (distance range.start place) (cut_steps range places)) places
In-cut_steps range places = places_in range places []

-- and each step is the one to a place
steps_of : (range : Range) (P : ℕ → Type 0) (places steps : List ℕ) → All (λ place. P (distance range.start place)) places → Each P steps
    → Each P (fold (with_cut range) steps places)
steps_of range P [] steps all each = each
steps_of range P (place ∷ places) steps all each =
    let Q : ℕ → Type 0 = λ place. P (distance range.start place) in
    let now : Each P (with_cut range steps place) = with_cut_cases range steps place (λ steps. Each P steps) (λ up below. Each-insert P steps (distance range.start place) (All-head Q place places all) each) each in
    steps_of range P places (with_cut range steps place) (All-tail Q place places all) now

pub Each-cut_steps : (range : Range) (places : List ℕ) → range.start < circle → All (λ place. place < circle) places
    → Each (λ step. Contains places (ahead range.start step)) (cut_steps range places)
Each-cut_steps range places s below =
    let P : ℕ → Type 0 = λ step. Contains places (ahead range.start step) in
    steps_of range P places [] (λ k d lt. subst (Contains places) (sym (ahead-distance range.start _ s (below k d lt)))
    (All-contains_itself places k d lt)) tt
