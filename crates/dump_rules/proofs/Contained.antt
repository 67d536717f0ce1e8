-- What lists contain, and tests that go over them.
use Rattle.std.proofs.Common.{arith, ◌≡◌, refl, sym, ap, subst, ◌∙◌, inl, inr, zero, suc, List, [], ◌∷◌, ◌++◌}
use Rattle.std.specs.Prelude.{Bool, true, false, cond, ◌⊎◌, map, filter, All, AllPairs, Contains}
use Rattle.std.specs.Bool.{Decides}
use Rattle.std.specs.List.{list_all, list_any}
use Rattle.std.proofs.lemmas.Bool.Decides.{Decides-like, Decides-and, Decides-or}
use Rattle.std.proofs.lemmas.List.Elements.{All-nil, All-cons, All-head, All-tail}

-- ---- What a list contains.
pub here : {X : Type 0} (x : X) (xs : List X) → Contains (x ∷ xs) x
here x xs = (0, omega arith, refl)

pub there : {X : Type 0} (x q : X) (xs : List X) → Contains xs q → Contains (x ∷ xs) q
there x q xs c = let lt = c.1 in (suc c.0, omega (arith, lt), c.2)

pub contains_nothing : {X : Type 0} (q : X) → Contains [] q → ⊥
contains_nothing q c = let lt = c.1 in absurd (omega (arith, lt))

pub first_or_later : {X : Type 0} (x q : X) (xs : List X) → Contains (x ∷ xs) q → (x ≡ q) ⊎ Contains xs q
first_or_later x q xs (zero, lt, e) = inl e
first_or_later x q xs (suc k, lt, e) = inr (k, omega (arith, lt), e)

-- ---- Tests of lists.
-- some item is so
abbrev pub Some_of : {X : Type 0} → (X → Type 0) → List X → Type 0
Some_of {X} P xs = (x : X) × Contains xs x × P x

pub Decides-all : {X : Type 0} (p : X → Bool) (H P : X → Type 0) → ((x : X) → H x → Decides (p x) (P x)) → (xs : List X) → All H xs
    → Decides (list_all p xs) (All P xs)
Decides-all p H P each [] h = (λ _. All-nil P, λ _. refl)
Decides-all p H P each (x ∷ xs) h =
    Decides-like _ (λ a. All-cons P x xs a.0 a.1) (λ a. (All-head P x xs a, All-tail P x xs a))
    (Decides-and _ _ (each x (All-head H x xs h)) (Decides-all p H P each xs (All-tail H x xs h)))

pub Decides-some : {X : Type 0} (p : X → Bool) (P : X → Type 0) → ((x : X) → Decides (p x) (P x)) → (xs : List X)
    → Decides (list_any p xs) (Some_of P xs)
Decides-some p P each [] = (λ no. absurd (let no : false ≡ true = no in cc), λ s. absurd (contains_nothing s.0 s.1))
Decides-some {X} p P each (x ∷ xs) = Decides-like _ to from (Decides-or _ _ (each x) (Decides-some p P each xs))
  where
    to : P x ⊎ Some_of P xs → Some_of P (x ∷ xs)
    to (inl now) = (x, here x xs, now)
    to (inr later) = (later.0, there x later.0 xs later.1, later.2)

    at : (q : X) → P q → (x ≡ q) ⊎ Contains xs q → P x ⊎ Some_of P xs
    at q so (inl e) = inl (subst P (sym e) so)
    at q so (inr later) = inr (q, later, so)

    from : Some_of P (x ∷ xs) → P x ⊎ Some_of P xs
    from s = at s.0 s.2 (first_or_later x s.0 xs s.1)

-- a test for each item of its equality with one item is that for its being there
pub Decides-contains : {X : Type 0} (E : X → X → Bool) → ((a b : X) → Decides (E a b) (a ≡ b)) → (q : X) (xs : List X)
    → Decides (list_any (E q) xs) (Contains xs q)
Decides-contains {X} E exact q xs =
    Decides-like _ (λ s. subst (λ (x : X). Contains xs x) (sym s.2) s.1) (λ c. (q, c, refl)) (Decides-some (E q) (λ x. q ≡ x) (exact q) xs)

-- ---- What made lists contain.
pub in_map : {X Y : Type 0} (f : X → Y) (xs : List X) (y : Y) → Contains (map f xs) y → Some_of (λ x. f x ≡ y) xs
in_map f [] y c = absurd (contains_nothing y c)
in_map {X} {Y} f (x ∷ xs) y c = at (first_or_later (f x) y (map f xs) c) (in_map f xs y)
  where
    at : (f x ≡ y) ⊎ Contains (map f xs) y → (Contains (map f xs) y → Some_of (λ q. f q ≡ y) xs) → Some_of (λ q. f q ≡ y) (x ∷ xs)
    at (inl e) rest = (x, here x xs, e)
    at (inr later) rest = let s = rest later in (s.0, there x s.0 xs s.1, s.2)

pub to_map : {X Y : Type 0} (f : X → Y) (xs : List X) (x : X) → Contains xs x → Contains (map f xs) (f x)
to_map f [] x c = absurd (contains_nothing x c)
to_map {X} {Y} f (first ∷ xs) x c = at (first_or_later first x xs c) (to_map f xs x)
  where
    at : (first ≡ x) ⊎ Contains xs x → (Contains xs x → Contains (map f xs) (f x)) → Contains (map f (first ∷ xs)) (f x)
    at (inl e) rest = subst (λ (y : Y). Contains (map f (first ∷ xs)) y) (ap f e) (here (f first) (map f xs))
    at (inr later) rest = there (f first) (f x) (map f xs) (rest later)

pub in_filter : {X : Type 0} (p : X → Bool) (xs : List X) (x : X) → Contains (filter p xs) x → Contains xs x × (p x ≡ true)
in_filter p [] x c = absurd (contains_nothing x c)
in_filter {X} p (first ∷ xs) x c = at (p first) refl (in_filter p xs x) c
  where
    later : Contains xs x × (p x ≡ true) → Contains (first ∷ xs) x × (p x ≡ true)
    later s = (there first x xs s.0, s.1)

    first_one : p first ≡ true → (first ≡ x) ⊎ Contains (filter p xs) x → (Contains (filter p xs) x → Contains xs x × (p x ≡ true))
        → Contains (first ∷ xs) x × (p x ≡ true)
    first_one passes (inl e) rest = subst (λ (y : X). Contains (first ∷ xs) y × (p y ≡ true)) e (here first xs, passes)
    first_one passes (inr c) rest = later (rest c)

    at : (b : Bool) → p first ≡ b → (Contains (filter p xs) x → Contains xs x × (p x ≡ true))
        → Contains (cond b (first ∷ filter p xs) (filter p xs)) x → Contains (first ∷ xs) x × (p x ≡ true)
    at true passes rest c = first_one passes (first_or_later first x (filter p xs) c) rest
    at false fails rest c = later (rest c)

pub to_filter : {X : Type 0} (p : X → Bool) (xs : List X) (x : X) → Contains xs x → p x ≡ true → Contains (filter p xs) x
to_filter p [] x c passes = absurd (contains_nothing x c)
to_filter {X} p (first ∷ xs) x c passes = at (p first) refl (first_or_later first x xs c) (λ later. to_filter p xs x later passes)
  where
    at : (b : Bool) → p first ≡ b → (first ≡ x) ⊎ Contains xs x → (Contains xs x → Contains (filter p xs) x)
        → Contains (cond b (first ∷ filter p xs) (filter p xs)) x
    at true is (inl e) rest = subst (λ (y : X). Contains (first ∷ filter p xs) y) e (here first (filter p xs))
    at true is (inr later) rest = there first x (filter p xs) (rest later)
    at false is (inl e) rest = absurd (let no : false ≡ true = sym is ∙ ap p e ∙ passes in cc)
    at false is (inr later) rest = rest later

pub in_append : {X : Type 0} (xs ys : List X) (q : X) → Contains (xs ++ ys) q → Contains xs q ⊎ Contains ys q
in_append [] ys q c = inr c
in_append (x ∷ xs) ys q c = at (first_or_later x q (xs ++ ys) c) (in_append xs ys q)
  where
    or_later : Contains xs q ⊎ Contains ys q → Contains (x ∷ xs) q ⊎ Contains ys q
    or_later (inl c) = inl (there x q xs c)
    or_later (inr c) = inr c

    at : (x ≡ q) ⊎ Contains (xs ++ ys) q → (Contains (xs ++ ys) q → Contains xs q ⊎ Contains ys q) → Contains (x ∷ xs) q ⊎ Contains ys q
    at (inl e) rest = inl (0, omega arith, e)
    at (inr later) rest = or_later (rest later)

pub to_append : {X : Type 0} (xs ys : List X) (q : X) → Contains xs q ⊎ Contains ys q → Contains (xs ++ ys) q
to_append [] ys q (inl c) = absurd (contains_nothing q c)
to_append [] ys q (inr c) = c
to_append (x ∷ xs) ys q (inl c) = at (first_or_later x q xs c) (λ c. to_append xs ys q (inl c))
  where
    at : (x ≡ q) ⊎ Contains xs q → (Contains xs q → Contains (xs ++ ys) q) → Contains (x ∷ (xs ++ ys)) q
    at (inl e) rest = (0, omega arith, e)
    at (inr later) rest = there x q (xs ++ ys) (rest later)
to_append (x ∷ xs) ys q (inr c) = there x q (xs ++ ys) (to_append xs ys q (inr c))

-- ---- Pairs of items.
pub no_pairs : {X : Type 0} (R : X → X → Type 0) → AllPairs R []
no_pairs R = λ i j d lt below. absurd (omega (arith, below))

pub pairs_head : {X : Type 0} (R : X → X → Type 0) (x : X) (xs : List X) → AllPairs R (x ∷ xs) → All (R x) xs
pairs_head R x xs pairs = λ k d below. pairs 0 (suc k) d (omega arith) (omega (arith, below))

pub pairs_tail : {X : Type 0} (R : X → X → Type 0) (x : X) (xs : List X) → AllPairs R (x ∷ xs) → AllPairs R xs
pairs_tail R x xs pairs = λ i j d lt below. pairs (suc i) (suc j) d (omega (arith, lt)) (omega (arith, below))
