-- A binary search among entries in the order of their silos finds what a look-up finds.
use Rattle.std.proofs.Common.{◌≡◌, ℕ, ◌<◌, ◌≤◌, List, length, get_or, Some, None, refl, sym, ◌∙◌, ap, subst, arith, inl, inr}
use Rattle.std.proofs.lemmas.Bool.{cases_order}
use Rattle.std.proofs.lemmas.Cmp.{alike_right, eq_by_cmp_equiv}
use Rattle.std.proofs.lemmas.List.{get_or-map}
use Rattle.std.proofs.lemmas.Map.Entries.{lookup_from_place, lookup_at_gap, length-keys_of}
use Rattle.std.proofs.lemmas.Map.Keys.{IsDistinct-from_sorted, Less-from_sorted}
use Rattle.std.proofs.lemmas.Option.{slice_get_read, slice_get_within, get_or_from_slice_get}
use Rattle.std.specs.List.{HoldsAt}
use Rattle.std.specs.List.Sorted.{IsStrictlySortedBy, IsNonDecreasingBy, IsPartitionPoint}
use Rattle.std.specs.Map.{lookup, keys_of}
use Rattle.std.specs.BTreeMap.{is_at}
use Rattle.std.specs.Ordering.{ordering_index, ordering_reverse}
use Rattle.std.specs.declared.cmp.Ordering.{Ordering}
use Rattle.std.specs.declared.cmp.Ordering.TheVariants.{Less, Equal, Greater}
use Rattle.silo_address.specs.Silo.{Silo, silo_cmp}
use Rattle.silo_address.proofs.Order.{silo_cmp_exact, silo_cmp_total}
use Rattle.membership_view.specs.declared.status.Status.{Status}
use Rattle.membership_view.specs.View.{is_outlived, or_outlived}
use Rattle.membership_view.specs.Listing.{outlived_at}
use Rattle.membership_view.proofs.Listed.{outlived_at_gap}

-- where the search hits
pub lookup_hit : {Y : Type 0} (es : List (Silo × Y)) → IsStrictlySortedBy silo_cmp (keys_of es) → (silo : Silo) (index : ℕ) (e : Silo × Y)
    → index < length es
    → HoldsAt (λ y. silo_cmp y.0 silo ≡ Equal) es index → e ≡ get_or es index e → lookup (is_at (silo_cmp silo)) es ≡ Some e.1
lookup_hit es s silo index e inside hit read =
    let same : e.0 ≡ silo = silo_cmp_exact e.0 silo (ap (λ y. silo_cmp y.0 silo) read ∙ hit e) in
    ap (λ k. lookup (is_at (silo_cmp k)) es) (sym same)
    ∙ lookup_from_place (eq_by_cmp_equiv silo_cmp_total) es index e.0 e.1 (IsDistinct-from_sorted silo_cmp (keys_of es) s)
    (slice_get_read es (length es) index e refl inside read)

rising : (silo a b : Silo) → silo_cmp a b ≡ Less → ordering_index (silo_cmp a silo) ≤ ordering_index (silo_cmp b silo)
rising silo a b below = by (silo_cmp b silo) refl (silo_cmp a silo) refl
  where
    by : (r : Ordering) → silo_cmp b silo ≡ r → (t : Ordering) → silo_cmp a silo ≡ t → ordering_index t ≤ ordering_index r
    by r h Less k = omega arith
    by Greater h Equal k = omega arith
    by Greater h Greater k = omega arith
    by Equal h t k =
        let e : t ≡ Less = sym k ∙ sym (alike_right silo_cmp_total b silo a h) ∙ below in
        subst (λ o. ordering_index o ≤ ordering_index Equal) (sym e) (omega arith)
    by Less h t k =
        let e : t ≡ Less = sym k ∙ silo_cmp_total.trans a b silo below h in
        subst (λ o. ordering_index o ≤ ordering_index Less) (sym e) (omega arith)

rises : {Y : Type 0} (es : List (Silo × Y)) → IsStrictlySortedBy silo_cmp (keys_of es) → (silo : Silo)
    → IsNonDecreasingBy (λ y. ordering_index (silo_cmp y.0 silo)) es
rises es s silo i j d upto inside = elim (cases_order i j) [
  | inl same ↦ let e = ap (λ k. ordering_index (silo_cmp (get_or es k d).0 silo)) same in omega (arith, e)
  | inr k ↦ elim k [
    | inl below ↦
        let within : i < length es = omega arith in
        let keys : length (keys_of es) ≡ length es = length-keys_of es in
        let less : silo_cmp (get_or (keys_of es) i d.0) (get_or (keys_of es) j d.0) ≡ Less = Less-from_sorted silo_cmp (keys_of es) i j d.0 s below (omega arith) in
        rising silo (get_or es i d).0 (get_or es j d).0
        (ap (λ k. silo_cmp k (get_or es j d).0) (sym (get_or-map (λ e. e.0) es i d d.0 within))
        ∙ ap (λ k. silo_cmp (get_or (keys_of es) i d.0) k) (sym (get_or-map (λ e. e.0) es j d d.0 inside)) ∙ less)
    | inr above ↦ absurd (omega arith)
  ]
]

turned : (a b : Silo) (r : Ordering) → silo_cmp b a ≡ r → silo_cmp a b ≡ ordering_reverse r
turned a b r h = silo_cmp_total.antisymm a b ∙ ap ordering_reverse h

-- where it misses
pub lookup_miss : {Y : Type 0} (es : List (Silo × Y)) → IsStrictlySortedBy silo_cmp (keys_of es) → (silo : Silo) (index : ℕ)
    → (IsNonDecreasingBy (λ y. ordering_index (silo_cmp y.0 silo)) es
    → IsPartitionPoint (λ y. silo_cmp y.0 silo ≡ Less) (λ y. silo_cmp y.0 silo ≡ Greater) es index)
    → lookup (is_at (silo_cmp silo)) es ≡ None
lookup_miss es s silo index parts =
    let point = parts (rises es s silo) in
    lookup_at_gap silo_cmp_total silo es index s
    (λ j e below at. turned silo e.0 Less (ap (λ y. silo_cmp y.0 silo) (sym (get_or_from_slice_get es j e e at))
    ∙ point.0 j e (omega arith) below))
    (λ e at. let inside : index < length es = slice_get_within es index e at in
    turned silo e.0 Greater (ap (λ y. silo_cmp y.0 silo) (sym (get_or_from_slice_get es index e e at))
    ∙ point.1 index e (omega arith) inside))

-- and there the row tells whether the silo is outlived
pub status_miss : (es : List (Silo × Status)) → IsStrictlySortedBy silo_cmp (keys_of es) → (silo : Silo) (index : ℕ)
    → (IsNonDecreasingBy (λ y. ordering_index (silo_cmp y.0 silo)) es
    → IsPartitionPoint (λ y. silo_cmp y.0 silo ≡ Less) (λ y. silo_cmp y.0 silo ≡ Greater) es index)
    → outlived_at es index silo ≡ or_outlived (lookup (is_at (silo_cmp silo)) es) (is_outlived silo es)
status_miss es s silo index parts =
    let point = parts (rises es s silo) in
    outlived_at_gap silo es index s
    (λ j e below at. turned silo e.0 Less (ap (λ y. silo_cmp y.0 silo) (sym (get_or_from_slice_get es j e e at))
    ∙ point.0 j e (let inside : j < length es = slice_get_within es j e at in omega arith) below))
    (λ e at. let inside : index < length es = slice_get_within es index e at in
    turned silo e.0 Greater (ap (λ y. silo_cmp y.0 silo) (sym (get_or_from_slice_get es index e e at))
    ∙ point.1 index e (omega arith) inside))
    ∙ ap (λ o. or_outlived o (is_outlived silo es)) (sym (lookup_miss es s silo index parts))
