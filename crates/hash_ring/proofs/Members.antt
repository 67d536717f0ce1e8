-- What is in a list, by recursion on it, which is what `Contains` says by places.
use Rattle.std.proofs.Common.{◌≡◌, ◌⊎◌, ◌<◌, ℕ, zero, suc, List, [], ◌∷◌, ◌++◌, length, get_or, cond, Bool, true, false, refl, sym, ◌∙◌, ap, subst, map, inl, inr, ⊎_elim, arith}
use Rattle.std.specs.List.{Contains, All, filter, flat_map}
use Rattle.std.proofs.lemmas.List.Elements.{All-nil, All-cons, All-contains}

-- the list has the value
abbrev pub In : {X : Type 0} → X → List X → Type 0
In x [] = ⊥
In x (y ∷ ys) = (y ≡ x) ⊎ In x ys

pub In-from_place : {X : Type 0} (x : X) (xs : List X) (k : ℕ) → k < length xs → get_or xs k x ≡ x → In x xs
In-from_place x [] k below at = absurd (omega arith)
In-from_place x (y ∷ ys) zero below at = inl at
In-from_place x (y ∷ ys) (suc k) below at = inr (In-from_place x ys k (omega arith) at)

pub In-from_Contains : {X : Type 0} (x : X) (xs : List X) → Contains xs x → In x xs
In-from_Contains x xs there = In-from_place x xs there.0 there.1 there.2

pub Contains-from_In : {X : Type 0} (x : X) (xs : List X) → In x xs → Contains xs x
Contains-from_In x [] there = absurd there
Contains-from_In x (y ∷ ys) (inl here) = (0, omega arith, here)
Contains-from_In x (y ∷ ys) (inr later) =
    let found = Contains-from_In x ys later in (suc found.0, let below : found.0 < length ys = found.1 in omega arith, found.2)

-- what holds of all holds of each, and the other way round
pub All-of : {X : Type 0} (P : X → Type 0) (xs : List X) (x : X) → All P xs → In x xs → P x
All-of P xs x all there = All-contains P xs x all (Contains-from_In x xs there)

pub All-from_each : {X : Type 0} (P : X → Type 0) (xs : List X) → ((x : X) → In x xs → P x) → All P xs
All-from_each P [] each = All-nil P
All-from_each P (x ∷ xs) each = All-cons P x xs (each x (inl refl)) (All-from_each P xs (λ y there. each y (inr there)))

-- ---- two lists, one after the other
pub In-left : {X : Type 0} (x : X) (xs ys : List X) → In x xs → In x (xs ++ ys)
In-left x [] ys there = absurd there
In-left x (y ∷ xs) ys (inl here) = inl here
In-left x (y ∷ xs) ys (inr later) = inr (In-left x xs ys later)

pub In-right : {X : Type 0} (x : X) (xs ys : List X) → In x ys → In x (xs ++ ys)
In-right x [] ys there = there
In-right x (y ∷ xs) ys there = inr (In-right x xs ys there)

pub In-either : {X : Type 0} (x : X) (xs ys : List X) → In x (xs ++ ys) → In x xs ⊎ In x ys
In-either x [] ys there = inr there
In-either x (y ∷ xs) ys (inl here) = inl (inl here)
In-either x (y ∷ xs) ys (inr later) = ⊎_elim (λ left. inl (inr left)) (λ right. inr right) (In-either x xs ys later)

-- ---- what a test keeps
kept_first : {X : Type 0} (x y : X) (ys : List X) (b : Bool) → (b ≡ true) → (y ≡ x) → In x (cond b (y ∷ ys) ys)
kept_first x y ys true passes here = inl here
kept_first x y ys false passes here = absurd (let no : false ≡ true = passes in cc)

kept_later : {X : Type 0} (x y : X) (ys : List X) (b : Bool) → In x ys → In x (cond b (y ∷ ys) ys)
kept_later x y ys true there = inr there
kept_later x y ys false there = there

pub In-filter : {X : Type 0} (p : X → Bool) (x : X) (xs : List X) → In x xs → p x ≡ true → In x (filter p xs)
In-filter p x [] there passes = absurd there
In-filter p x (y ∷ ys) (inl here) passes = kept_first x y (filter p ys) (p y) (ap p here ∙ passes) here
In-filter p x (y ∷ ys) (inr later) passes = kept_later x y (filter p ys) (p y) (In-filter p x ys later passes)

In-kept : {X : Type 0} (p : X → Bool) (x y : X) (ys : List X) (b : Bool) → p y ≡ b → In x (cond b (y ∷ ys) ys) → ((y ≡ x) × (p x ≡ true))
    ⊎ In x ys
In-kept p x y ys true tested (inl here) = inl (here, ap p (sym here) ∙ tested)
In-kept p x y ys true tested (inr later) = inr later
In-kept p x y ys false tested there = inr there

pub In-from_filter : {X : Type 0} (p : X → Bool) (x : X) (xs : List X) → In x (filter p xs) → In x xs × (p x ≡ true)
In-from_filter p x [] there = absurd there
In-from_filter p x (y ∷ ys) there =
    ⊎_elim (λ here. (inl here.0, here.1)) (λ later. let found : In x ys × (p x ≡ true) = In-from_filter p x ys later in
    (inr found.0, found.1))
    (In-kept p x y (filter p ys) (p y) refl there)

-- ---- lists made of lists
pub In-map : {X Y : Type 0} (f : X → Y) (x : X) (xs : List X) → In x xs → In (f x) (map f xs)
In-map f x [] there = absurd there
In-map f x (y ∷ ys) (inl here) = inl (ap f here)
In-map f x (y ∷ ys) (inr later) = inr (In-map f x ys later)

pub In-from_map : {X Y : Type 0} (f : X → Y) (y : Y) (xs : List X) → In y (map f xs) → (x : X) × In x xs × (f x ≡ y)
In-from_map f y [] there = absurd there
In-from_map f y (x ∷ xs) (inl here) = (x, inl refl, here)
In-from_map f y (x ∷ xs) (inr later) = let found = In-from_map f y xs later in (found.0, inr found.1, found.2)

pub In-flat_map : {X Y : Type 0} (f : X → List Y) (x : X) (y : Y) (xs : List X) → In x xs → In y (f x) → In y (flat_map f xs)
In-flat_map f x y [] there in_it = absurd there
In-flat_map f x y (z ∷ zs) (inl here) in_it = In-left y (f z) (flat_map f zs) (subst (λ w. In y (f w)) (sym here) in_it)
In-flat_map f x y (z ∷ zs) (inr later) in_it = In-right y (f z) (flat_map f zs) (In-flat_map f x y zs later in_it)

pub In-from_flat_map : {X Y : Type 0} (f : X → List Y) (y : Y) (xs : List X) → In y (flat_map f xs) → (x : X) × In x xs × In y (f x)
In-from_flat_map f y [] there = absurd there
In-from_flat_map {X} {Y} f y (z ∷ zs) there = by (λ later. In-from_flat_map f y zs later) (In-either y (f z) (flat_map f zs) there)
  where
    by : (In y (flat_map f zs) → (x : X) × In x zs × In y (f x)) → In y (f z) ⊎ In y (flat_map f zs) → (x : X) × In x (z ∷ zs) × In y (f x)
    by again (inl here) = (z, inl refl, here)
    by again (inr later) = let found = again later in (found.0, inr found.1, found.2)
