-- Lists made of others: what they contain, and pairs of their items.
use Rattle.std.proofs.Common.{◌≡◌, ◌⊎◌, inl, inr, List, [], ◌∷◌, ◌++◌, map, sym, subst}
use Rattle.std.specs.Prelude.{flat_map, All, AllPairs, Contains}
use Rattle.std.proofs.lemmas.List.Elements.{All-nil, All-head, All-tail, All-append, All-map}
use Rattle.std.proofs.lemmas.List.Kept.{AllPairs-cons}
use Rattle.dump_rules.proofs.Contained.{Some_of, here, there, contains_nothing, first_or_later, in_append, to_append, no_pairs, pairs_head, pairs_tail}

module _ {X Y : Type 0} (f : X → List Y) where
  pub in_flat_map : (xs : List X) (y : Y) → Contains (flat_map f xs) y → Some_of (λ x. Contains (f x) y) xs
  in_flat_map [] y c = absurd (contains_nothing y c)
  in_flat_map (x ∷ xs) y c = at (in_append (f x) (flat_map f xs) y c) (in_flat_map xs y)
    where
      at : Contains (f x) y ⊎ Contains (flat_map f xs) y → (Contains (flat_map f xs) y → Some_of (λ q. Contains (f q) y) xs)
          → Some_of (λ q. Contains (f q) y) (x ∷ xs)
      at (inl now) rest = (x, here x xs, now)
      at (inr later) rest = let s = rest later in (s.0, there x s.0 xs s.1, s.2)

  pub to_flat_map : (xs : List X) (x : X) (y : Y) → Contains xs x → Contains (f x) y → Contains (flat_map f xs) y
  to_flat_map [] x y c its = absurd (contains_nothing x c)
  to_flat_map (first ∷ xs) x y c its = at (first_or_later first x xs c) (λ later. to_flat_map xs x y later its)
    where
      at : (first ≡ x) ⊎ Contains xs x → (Contains xs x → Contains (flat_map f xs) y) → Contains (f first ++ flat_map f xs) y
      at (inl same) rest = to_append (f first) (flat_map f xs) y (inl (subst (λ q. Contains (f q) y) (sym same) its))
      at (inr later) rest = to_append (f first) (flat_map f xs) y (inr (rest later))

  -- what holds of all parts
  pub all_flat_map : (P : Y → Type 0) (xs : List X) → All (λ x. All P (f x)) xs → All P (flat_map f xs)
  all_flat_map P [] all = All-nil P
  all_flat_map P (x ∷ xs) all =
      All-append P (f x) (flat_map f xs) (All-head (λ q. All P (f q)) x xs all) (all_flat_map P xs (All-tail (λ q. All P (f q)) x xs all))

-- ---- pairs
pub pairs_append : {X : Type 0} (R : X → X → Type 0) (xs ys : List X) → AllPairs R xs → AllPairs R ys → All (λ x. All (R x) ys) xs
    → AllPairs R (xs ++ ys)
pairs_append R [] ys one other both = other
pairs_append R (x ∷ xs) ys one other both =
    AllPairs-cons R x (xs ++ ys)
    (All-append (R x) xs ys (pairs_head R x xs one) (All-head (λ q. All (R q) ys) x xs both))
    (pairs_append R xs ys (pairs_tail R x xs one) other (All-tail (λ q. All (R q) ys) x xs both))

pub pairs_map : {X Y : Type 0} (R : Y → Y → Type 0) (f : X → Y) (xs : List X) → AllPairs (λ x later. R (f x) (f later)) xs
    → AllPairs R (map f xs)
pairs_map R f [] pairs = no_pairs R
pairs_map {X} R f (x ∷ xs) pairs =
    AllPairs-cons R (f x) (map f xs) (All-map (R (f x)) f xs (pairs_head (λ (q later : X). R (f q) (f later)) x xs pairs))
    (pairs_map R f xs (pairs_tail (λ (q later : X). R (f q) (f later)) x xs pairs))
