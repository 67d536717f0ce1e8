-- Lists in strict order: no item stands twice, none is below the one before it, and what is found under a key stands there.
use Rattle.std.proofs.Common.{arith, ◌≡◌, ◌≢◌, ◌+◌, List, [], ◌∷◌, map, refl, sym, ap, ◌∙◌}
use Rattle.std.specs.Prelude.{false, cond, All, AllPairs, Some}
use Rattle.std.specs.List.{AllByRecursion}
use Rattle.std.specs.List.Sorted.{IsSorted, IsStrictlySortedBy}
use Rattle.std.specs.Cmp.{IsTotalOrder}
use Rattle.std.specs.Map.{lookup, keys_of}
use Rattle.std.specs.BTreeMap.{is_at}
use Rattle.std.specs.Ordering.{ordering_reverse, is_lt, is_eq}
use Rattle.std.specs.declared.cmp.Ordering.{Ordering}
use Rattle.std.specs.declared.cmp.Ordering.TheVariants.{Less, Equal}
use Rattle.std.proofs.lemmas.Cmp.{tied_itself}
use Rattle.std.proofs.lemmas.Map.Keys.{Less-from_sorted}
use Rattle.std.proofs.lemmas.Map.Lookups.{CmpEqualImpliesEq}
use Rattle.std.proofs.lemmas.List.Elements.{All-nil, All-cons}
use Rattle.std.proofs.lemmas.List.Kept.{AllPairs-cons}
use Rattle.silo_address.proofs.Order.{apart_in_order}
use Rattle.directory_facts.proofs.Entries.{found_so, same_key}

module _ {K : Type 0} (R : K → K → Ordering) (o : IsTotalOrder R) where
  less_is_apart : (a b : K) → R a b ≡ Less → a ≢ b
  less_is_apart a b less same = absurd (let no : Less ≡ Equal = sym less ∙ ap (λ (k : K). R k b) same ∙ tied_itself o b in cc)

  not_below : (a b : K) → R a b ≡ Less → is_lt (R b a) ≡ false
  not_below a b less = ap is_lt (o.antisymm b a ∙ ap ordering_reverse less)

  pub sorted_once : (ks : List K) → IsStrictlySortedBy R ks → AllPairs (λ k later. k ≢ later) ks
  sorted_once ks sorted i j d lt below = less_is_apart _ _ (Less-from_sorted R ks i j d sorted lt below)

  pub sorted_in_order : (ks : List K) → IsStrictlySortedBy R ks → IsSorted R ks
  sorted_in_order ks sorted k d low high = not_below _ _ (Less-from_sorted R ks k (k + 1) d sorted (omega arith) high)

-- no key of the tail is that of the head
module _ {K X : Type 0} (R : K → K → Ordering) (o : IsTotalOrder R) (exact : CmpEqualImpliesEq R) where
  apart_from : (key : K) (es : List (K × X)) → AllByRecursion (λ other. R key other ≡ Less) (keys_of es) → All (λ e. key ≢ e.0) es
  apart_from key [] above = All-nil (λ (e : K × X). key ≢ e.0)
  apart_from key (e ∷ es) above = All-cons (λ (x : K × X). key ≢ x.0) e es (less_is_apart R o key e.0 above.0) (apart_from key es above.1)

  -- no two entries are of one key
  pub entries_apart : (es : List (K × X)) → IsStrictlySortedBy R (keys_of es) → AllPairs (λ e later. e.0 ≢ later.0) es
  unfolding IsStrictlySortedBy
  entries_apart [] sorted = λ i j d lt below. absurd (omega (arith, below))
  entries_apart (e ∷ es) sorted =
      AllPairs-cons (λ (x later : K × X). x.0 ≢ later.0) e es (apart_from e.0 es sorted.0) (entries_apart es sorted.1)

  -- what holds of all that is found holds of each entry
  pub all_found : (P : K × X → Type 0) (es : List (K × X)) → IsStrictlySortedBy R (keys_of es)
      → ((key : K) (x : X) → lookup (is_at (R key)) es ≡ Some x → P (key, x)) → All P es
  unfolding IsStrictlySortedBy
  all_found P [] sorted so = All-nil P
  all_found P (e ∷ es) sorted so =
      All-cons P e es (so e.0 e.1 (ap (λ b. cond b (Some e.1) (lookup (is_at (R e.0)) es)) (ap is_eq (tied_itself o e.0))))
      (all_found P es sorted.1 (λ key x found.
      let there = found_so (λ (y : K × X). e.0 ≢ y.0) (is_at (R key)) x es (apart_from e.0 es sorted.0) found in
      let other : key ≢ e.0 = λ same. there.2 (sym same ∙ same_key R exact key there.0 there.1) in
      so key x (ap (λ b. cond b (Some e.1) (lookup (is_at (R key)) es)) (apart_in_order R exact key e.0 other) ∙ found)))

-- two ways to list the keys
pub mapped_keys : {X K Y : Type 0} (f : K × X → Y) (key : Y → K) → ((e : K × X) → key (f e) ≡ e.0) → (es : List (K × X))
    → map key (map f es) ≡ keys_of es
mapped_keys f key same [] = refl
mapped_keys f key same (e ∷ es) = λ i. same e i ∷ mapped_keys f key same es i
