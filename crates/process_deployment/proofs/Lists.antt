-- Lists, and entries that are put in again.
use Rattle.std.proofs.Common.{arith, ◌≡◌, ℕ, zero, suc, ◌<◌, List, [], ◌∷◌, ◌++◌, length, refl, sym, ap, ◌∙◌}
use Rattle.std.specs.Prelude.{All, Some, map, flat_map, slice_get, slice_index_or}
use Rattle.std.specs.Map.{lookup, keys_of}
use Rattle.std.specs.BTreeMap.{is_at, insert_entry}
use Rattle.std.specs.Option.{option_map}
use Rattle.std.specs.Cmp.{IsTotalOrder}
use Rattle.std.specs.declared.cmp.Ordering.{Ordering}
use Rattle.std.specs.List.Sorted.{IsStrictlySortedBy}
use Rattle.std.proofs.lemmas.List.Elements.{All-nil, All-head, All-tail, All-append}
use Rattle.deployment_headline.proofs.Lists.{over, put_same}

map-itself : {X : Type 0} (xs : List X) → map (λ x. x) xs ≡ xs
map-itself [] = refl
map-itself (x ∷ xs) = ap (λ ys. x ∷ ys) (map-itself xs)

-- what is there is put in again
pub put_again : {K X : Type 0} (R : K → K → Ordering) → IsTotalOrder R → (key : K) (value : X) (es : List (K × X))
    → IsStrictlySortedBy R (keys_of es) → lookup (is_at (R key)) es ≡ Some value → insert_entry R es key value ≡ es
put_again R total key value es sorted there =
    sym (map-itself (insert_entry R es key value)) ∙ put_same (λ x. x) R total key value es sorted (ap (option_map (λ x. x)) there)
    ∙ map-itself es

pub keys_over : {K X Y : Type 0} (g : X → Y) (es : List (K × X)) → keys_of (over g es) ≡ keys_of es
keys_over g [] = refl
keys_over g (e ∷ es) = ap (λ keys. e.0 ∷ keys) (keys_over g es)

pub all_behind : {X : Type 0} (P : X → Type 0) (xs ys : List X) → All P (xs ++ ys) → All P ys
all_behind P [] ys all = all
all_behind P (x ∷ xs) ys all = all_behind P xs ys (All-tail P x (xs ++ ys) all)

pub all_flat : {X Y : Type 0} (P : Y → Type 0) (f : X → List Y) (xs : List X) → All (λ x. All P (f x)) xs → All P (flat_map f xs)
all_flat P f [] all = All-nil P
all_flat P f (x ∷ xs) all =
    All-append P (f x) (flat_map f xs) (All-head (λ x. All P (f x)) x xs all) (all_flat P f xs (All-tail (λ x. All P (f x)) x xs all))

pub found_at : {X : Type 0} (xs : List X) (k : ℕ) (x : X) → k < length xs → slice_index_or xs k x ≡ x → slice_get xs k ≡ Some x
found_at [] k x below is = absurd (omega (below, arith))
found_at (y ∷ xs) zero x below is = ap (λ z. Some z) is
found_at (y ∷ xs) (suc k) x below is = found_at xs k x (omega (below, arith)) is
