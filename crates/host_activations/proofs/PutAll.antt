-- Entries put in under their numbers, one after another: what is found then.
use Rattle.std.proofs.Common.{◌≡◌, refl, ap, ◌∙◌, ℕ, List, [], ◌∷◌, cond, Bool, true, false, Option, Some, None, fold, is_some}
use Rattle.std.specs.List.{AllByRecursion, filter_map, cons_option, list_all}
use Rattle.std.specs.Option.{option_map}
use Rattle.std.specs.List.Sorted.{IsStrictlySortedBy}
use Rattle.std.specs.Map.{lookup, keys_of}
use Rattle.std.specs.BTreeMap.{is_at, insert_entry}
use Rattle.std.specs.Ordering.{nat_cmp}
use Rattle.std.proofs.lemmas.Cmp.{nat_cmp_total}
use Rattle.std.proofs.lemmas.Bool.{and_parts}
use Rattle.texts.proofs.Entries.{lookup-insert_entry, sorted-insert_entry}

module _ {X : Type 0} where
  abbrev pub put_all : List (ℕ × X) → List (ℕ × X) → List (ℕ × X)
  put_all es xs = fold (λ acts e. insert_entry nat_cmp acts e.0 e.1) es xs

  abbrev pub at : ℕ → List (ℕ × X) → Option X
  at n es = lookup (is_at (nat_cmp n)) es

  pub sorted_put_all : (es xs : List (ℕ × X)) → IsStrictlySortedBy nat_cmp (keys_of es)
      → IsStrictlySortedBy nat_cmp (keys_of (put_all es xs))
  sorted_put_all es [] sorted = sorted
  sorted_put_all es (x ∷ xs) sorted =
      sorted_put_all (insert_entry nat_cmp es x.0 x.1) xs (sorted-insert_entry nat_cmp_total x.0 x.1 es sorted)

  -- no entry comes under the number
  pub put_none : (n : ℕ) (es xs : List (ℕ × X)) → AllByRecursion (λ e. is_at (nat_cmp n) e.0 ≡ false) xs → at n (put_all es xs) ≡ at n es
  put_none n es [] none = refl
  put_none n es (x ∷ xs) none =
      put_none n (insert_entry nat_cmp es x.0 x.1) xs none.1
      ∙ lookup-insert_entry nat_cmp_total x.0 x.1 n es
      ∙ ap (λ b. cond b (Some x.1) (at n es)) none.0

  -- it has this already, and no other entry comes under the number
  put_again : (n : ℕ) (a : X) (es xs : List (ℕ × X)) → AllByRecursion (λ e. is_at (nat_cmp n) e.0 ≡ true → e.1 ≡ a) xs → at n es ≡ Some a
      → at n (put_all es xs) ≡ Some a
  put_again n a es [] only there = there
  put_again n a es (x ∷ xs) only there =
      put_again n a (insert_entry nat_cmp es x.0 x.1) xs only.1
      (lookup-insert_entry nat_cmp_total x.0 x.1 n es ∙ by (is_at (nat_cmp n) x.0) only.0)
    where
      by : (b : Bool) → (b ≡ true → x.1 ≡ a) → cond b (Some x.1) (at n es) ≡ Some a
      by true same = ap (λ (y : X). Some y) (same refl)
      by false same = there

  -- it comes, and no other entry comes under the number
  pub put_some : (n : ℕ) (a : X) (es xs : List (ℕ × X)) → AllByRecursion (λ e. is_at (nat_cmp n) e.0 ≡ true → e.1 ≡ a) xs → at n xs ≡ Some a
      → at n (put_all es xs) ≡ Some a
  put_some n a es [] only there = cc
  put_some n a es (x ∷ xs) only there = by (is_at (nat_cmp n) x.0) refl there (put_some n a (insert_entry nat_cmp es x.0 x.1) xs only.1)
    where
      by : (b : Bool) → is_at (nat_cmp n) x.0 ≡ b → cond b (Some x.1) (at n xs) ≡ Some a
          → (at n xs ≡ Some a → at n (put_all (insert_entry nat_cmp es x.0 x.1) xs) ≡ Some a)
          → at n (put_all (insert_entry nat_cmp es x.0 x.1) xs) ≡ Some a
      by true h there later =
          put_again n a (insert_entry nat_cmp es x.0 x.1) xs only.1
          (lookup-insert_entry nat_cmp_total x.0 x.1 n es ∙ ap (λ b. cond b (Some x.1) (at n es)) h ∙ ap (λ (y : X). Some y) (only.0 h))
      by false h there later = later there

  -- what holds of each thing that a function gives
  pub all_given : {E : Type 0} (P : ℕ × X → Type 0) (f : E → Option (ℕ × X)) (es : List E)
      → AllByRecursion (λ e. (x : ℕ × X) → f e ≡ Some x → P x) es → AllByRecursion P (filter_map f es)
  all_given P f [] all = tt
  all_given P f (e ∷ es) all = by (f e) all.0 (all_given P f es all.1)
    where
      by : (o : Option (ℕ × X)) → ((x : ℕ × X) → o ≡ Some x → P x) → AllByRecursion P (filter_map f es)
          → AllByRecursion P (cons_option o (filter_map f es))
      by None here later = later
      by (Some x) here later = (here x refl, later)

-- of each entry something is picked, so the keys stay
pub keys-picked : {X Y : Type 0} (pick : X → Option Y) (es : List (ℕ × X)) → list_all (λ e. is_some (pick e.1)) es ≡ true
    → keys_of (filter_map (λ e. option_map (λ y. (e.0, y)) (pick e.1)) es) ≡ keys_of es
keys-picked pick [] all = refl
keys-picked {X} {Y} pick (e ∷ es) all =
    let both = and_parts (is_some (pick e.1)) (list_all (λ e. is_some (pick e.1)) es) all in
    by (pick e.1) both.0 (keys-picked pick es both.1)
  where
    by : (o : Option Y) → is_some o ≡ true → keys_of (filter_map (λ e. option_map (λ y. (e.0, y)) (pick e.1)) es) ≡ keys_of es
        → keys_of (cons_option (option_map (λ y. (e.0, y)) o) (filter_map (λ e. option_map (λ y. (e.0, y)) (pick e.1)) es)) ≡ e.0 ∷ keys_of
        es
    by None some later = cc
    by (Some y) some later = ap (λ l. e.0 ∷ l) later
