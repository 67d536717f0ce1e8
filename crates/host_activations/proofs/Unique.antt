-- What is found at each grain tells activations in rising counts.
use Rattle.std.proofs.Common.{◌≡◌, refl, sym, ap, ◌∙◌, ◌<◌, List, [], ◌∷◌, cond, Bool, true, false, Some, None, arith}
use Rattle.std.specs.List.{AllByRecursion, IsDistinct}
use Rattle.std.specs.Map.{lookup, keys_of}
use Rattle.std.specs.BTreeMap.{is_at}
use Rattle.std.proofs.lemmas.Option.{same_Some}
use Rattle.silo_address.specs.Grain.{Grain, grain_cmp, grain_eq}
use Rattle.directory_rules.specs.declared.Held.{Held}
use Rattle.host_activations.proofs.Grains.{all_map, found_all, grain_at_itself, not_at, on_grain, other_grain, same_test}
use Rattle.host_activations.proofs.Rows.{Before, IsRow, absent}

first_found : (x : Grain × Held) (xs : List (Grain × Held)) → lookup (is_at (grain_cmp x.0)) (x ∷ xs) ≡ Some x.1
first_found x xs = ap (λ b. cond b (Some x.1) (lookup (is_at (grain_cmp x.0)) xs)) (grain_at_itself x.0)

passed_by : (q : Grain) (x : Grain × Held) (xs : List (Grain × Held)) → is_at (grain_cmp q) x.0 ≡ false
    → lookup (is_at (grain_cmp q)) (x ∷ xs) ≡ lookup (is_at (grain_cmp q)) xs
passed_by q x xs other = ap (λ b. cond b (Some x.1) (lookup (is_at (grain_cmp q)) xs)) other

gone_behind : (q : Grain) (x : Grain × Held) (xs : List (Grain × Held)) → q ≡ x.0 → AllByRecursion (Before x) xs
    → lookup (is_at (grain_cmp q)) xs ≡ None
gone_behind q x xs is before = absent q x xs is (all_map (Before x) (λ y. x.0 ≡ y.0 → ⊥) xs (λ y p. p.0) before)

-- one that isn't first began after the first
later_than : (x : Grain × Held) (q : Grain) (xs : List (Grain × Held)) (h : Held) → AllByRecursion (Before x) xs
    → lookup (is_at (grain_cmp q)) xs ≡ Some h → x.1.count < h.count
later_than x q xs h before is =
    found_all (λ k. x.1.count < k.count) q xs h (all_map (Before x) (λ y. x.1.count < y.1.count) xs (λ y p. p.1) before) is

abbrev FindsAlike : List (Grain × Held) → List (Grain × Held) → Type 0
FindsAlike xs ys = (q : Grain) → lookup (is_at (grain_cmp q)) xs ≡ lookup (is_at (grain_cmp q)) ys

pub unique : (xs ys : List (Grain × Held)) → IsRow xs → IsRow ys → FindsAlike xs ys → xs ≡ ys
unique [] [] rx ry alike = refl
unique [] (y ∷ ys) rx ry alike = let h : None ≡ Some y.1 = alike y.0 ∙ first_found y ys in cc
unique (x ∷ xs) [] rx ry alike = let h : Some x.1 ≡ None = sym (first_found x xs) ∙ alike x.0 in cc
unique (x ∷ xs) (y ∷ ys) rx ry alike = by (is_at (grain_cmp x.0) y.0) refl (unique xs ys rx.1 ry.1)
  where
    tails : x.0 ≡ y.0 → FindsAlike xs ys
    tails same q =
        on_grain (λ b. (b ≡ is_at (grain_cmp q) x.0) → lookup (is_at (grain_cmp q)) xs ≡ lookup (is_at (grain_cmp q)) ys) q x.0
        (λ is at. gone_behind q x xs is rx.0 ∙ sym (gone_behind q y ys (is ∙ same) ry.0))
        (λ other at. sym (passed_by q x xs other) ∙ alike q
        ∙ passed_by q y ys (sym (ap (λ (g : Grain). is_at (grain_cmp q) g) same) ∙ other)) refl

    heads : x.0 ≡ y.0 → x ≡ y
    heads same =
        let value : x.1 ≡ y.1 = same_Some x.1 y.1 (sym (first_found x xs) ∙ alike x.0 ∙ ap (λ (g : Grain). lookup (is_at (grain_cmp g)) (y ∷ ys)) same ∙ first_found y ys) in
        (λ i. (same i, value i))

    never : (x.0 ≡ y.0 → ⊥) → ⊥
    never apart =
        let left : x.1.count < y.1.count =
        later_than x y.0 xs y.1 rx.0 (sym (passed_by y.0 x xs (not_at y.0 x.0 (λ same. apart (sym same)))) ∙ alike y.0
        ∙ first_found y ys) in
        let right : y.1.count < x.1.count = later_than y x.0 ys x.1 ry.0 (sym (passed_by x.0 y ys (not_at x.0 y.0 apart)) ∙ sym (alike x.0) ∙ first_found x xs) in
        absurd (omega (left, right, arith))

    by : (b : Bool) → is_at (grain_cmp x.0) y.0 ≡ b → (FindsAlike xs ys → xs ≡ ys) → x ∷ xs ≡ y ∷ ys
    by true is later =
        on_grain (λ b. b ≡ true → x ∷ xs ≡ y ∷ ys) x.0 y.0
        (λ same yes. (λ i. heads same i ∷ later (tails same) i)) (λ other no. cc) is
    by false is later = absurd (never (other_grain x.0 y.0 is))

-- their grains are distinct
pub row_distinct : (xs : List (Grain × Held)) → IsRow xs → IsDistinct grain_eq (keys_of xs)
unfolding IsDistinct
row_distinct [] row = tt
row_distinct (x ∷ xs) row = (others xs row.0, row_distinct xs row.1)
  where
    others : (ys : List (Grain × Held)) → AllByRecursion (Before x) ys → AllByRecursion (λ g. grain_eq x.0 g ≡ false) (keys_of ys)
    others [] before = tt
    others (y ∷ ys) before = (same_test x.0 y.0 ∙ not_at x.0 y.0 before.0.0, others ys before.1)
