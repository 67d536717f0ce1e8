-- Lists in strict order: what a filter keeps, and what is put in.
use Rattle.std.proofs.Common.{◌≡◌, Bool, true, cond, List, [], ◌∷◌, map, refl, ◌∙◌, ap, subst, inl, inr}
use Rattle.std.specs.List.{filter}
use Rattle.std.specs.BTreeSet.{insert_key}
use Rattle.std.specs.Ordering.{match_ordering, on}
use Rattle.std.specs.declared.cmp.Ordering.{Ordering}
use Rattle.std.specs.declared.cmp.Ordering.TheVariants.{Less}
use Rattle.hash_ring.proofs.Members.{In, In-map, In-from_map, In-from_filter}
use Rattle.hash_ring.proofs.StrictOrder.{Rising}
use Rattle.directory_rules.proofs.Cases.{on_bool}

-- a test that all pass keeps all
pub filter_all : {X : Type 0} (p : X → Bool) (xs : List X) → ((x : X) → In x xs → p x ≡ true) → filter p xs ≡ xs
filter_all p [] each = refl
filter_all p (x ∷ xs) each =
    ap (λ b. cond b (x ∷ filter p xs) (filter p xs)) (each x (inl refl)) ∙ ap (λ l. x ∷ l) (filter_all p xs (λ y there. each y (inr there)))

-- what is below all that is there goes first
pub insert_first : {K : Type 0} (R : K → K → Ordering) (k : K) (xs : List K) → ((y : K) → In y xs → R k y ≡ Less)
    → insert_key R xs k ≡ k ∷ xs
insert_first R k [] below = refl
insert_first R k (x ∷ xs) below = ap (λ r. match_ordering r (k ∷ x ∷ xs) (x ∷ xs) (x ∷ insert_key R xs k)) (below x (inl refl))

-- values stand in the order of their keys
pub Rising-by : {K X : Type 0} (R : K → K → Ordering) (key : X → K) (xs : List X) → Rising R (map key xs) → Rising (on key R) xs
Rising-by R key [] rising = tt
Rising-by R key (x ∷ xs) rising = (λ y there. rising.0 (key y) (In-map key y xs there), Rising-by R key xs rising.1)

-- what a test keeps of them keeps their order
pub Rising-kept : {K X : Type 0} (R : K → K → Ordering) (key : X → K) (p : X → Bool) (xs : List X) → Rising R (map key xs)
    → Rising R (map key (filter p xs))
Rising-kept R key p [] rising = tt
Rising-kept {K} {X} R key p (x ∷ xs) rising =
    on_bool (λ b. Rising R (map key (cond b (x ∷ filter p xs) (filter p xs)))) (p x) (λ t. (below, Rising-kept R key p xs rising.1))
    (λ f. Rising-kept R key p xs rising.1)
  where
    below : (k : K) → In k (map key (filter p xs)) → R (key x) k ≡ Less
    below k there =
        let found = In-from_map key k (filter p xs) there in
        subst (λ k. R (key x) k ≡ Less) found.2 (rising.0 (key found.0) (In-map key found.0 xs (In-from_filter p found.0 xs found.1).0))
