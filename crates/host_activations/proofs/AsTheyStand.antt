-- What is listed and sorted is, as entries, what stands in the range and passes a test, in its order.
use Rattle.std.proofs.Common.{◌≡◌, refl, sym, ap, subst, ◌∙◌, ℕ, ◌+◌, ◌<◌, List, [], ◌∷◌, cond, Bool, true, false, ◌&&◌, filter, get_or, length, map, option_map, Option, Some, None, arith}
use Rattle.std.specs.BTreeMap.{is_at}
use Rattle.std.specs.Cmp.{IsTotalOrder}
use Rattle.std.specs.List.{All, AllByRecursion, IsDistinct}
use Rattle.std.specs.List.Sorted.{IsPermutation, IsSorted, IsStrictlySortedBy}
use Rattle.std.specs.Map.{lookup, keys_of, values_of}
use Rattle.std.specs.Ordering.{eq_by_cmp, is_eq, is_lt, nat_cmp, ordering_reverse, ordering_then}
use Rattle.std.specs.declared.cmp.Ordering.{Ordering}
use Rattle.std.specs.declared.cmp.Ordering.TheVariants.{Less, Equal, Greater}
use Rattle.std.proofs.lemmas.Cmp.{eq_by_cmp_equiv}
use Rattle.std.proofs.lemmas.List.{get_or-map, length-map}
use Rattle.std.proofs.lemmas.List.Elements.{All-map}
use Rattle.std.proofs.lemmas.List.Kept.{IsStrictlySortedBy-filter}
use Rattle.std.proofs.lemmas.List.Sorted.{All-permutation, IsPermutation-map}
use Rattle.std.proofs.lemmas.Map.Entries.{lookup-filter-keys}
use Rattle.std.proofs.lemmas.Map.Keys.{IsDistinct-IsPermutation, apart_from_distinct, sorted_from_all_adjacent}
use Rattle.texts.proofs.Entries.{sorted-nil}
use Rattle.texts.proofs.Orderings.{Equal-from, first_from}
use Rattle.indexmap.proofs.MapLemmas.{lookup_permutation}
use Rattle.silo_address.specs.Silo.{Silo}
use Rattle.silo_address.specs.Grain.{Grain, grain_cmp, grain_eq}
use Rattle.silo_address.specs.declared.Entry.{Entry}
use Rattle.membership_view.proofs.Found.{same_entries}
use Rattle.hash_ring.specs.Hash.{hash_grain}
use Rattle.directory_rules.specs.declared.Held.{Held}
use Rattle.directory_rules.specs.Host.{entry_on}
use Rattle.directory_rules.specs.Standing.{as_they_stand, standing_cmp}
use Rattle.directory_rules.specs.State.{Table}
use Rattle.directory_rules.proofs.Standings.{put_as_they_stand, put_sorted, standing_exact, standing_total}
use Rattle.host_activations.specs.Firm.{is_told}
use Rattle.host_activations.specs.Listing.{as_listed, entry_listed, passing, steps_of}
use Rattle.host_activations.specs.declared.activations.page.PageAsked.{PageAsked}
use Rattle.host_activations.proofs.Grains.{on_grain, same_test}
use Rattle.host_activations.proofs.Tables.{at_alike, found_standing, own_all}

-- ---- Lists of pairs.
module _ {X Y Z : Type 0} (f : X → Y) (g : Y → Z) where
  map_both : (xs : List X) → map g (map f xs) ≡ map (λ x. g (f x)) xs
  map_both [] = refl
  map_both (x ∷ xs) = ap (λ l. g (f x) ∷ l) (map_both xs)

module _ (first : Grain → Bool) where
  keys_filtered : (table : Table) → keys_of (filter (λ e. first e.0) table) ≡ filter first (keys_of table)
  keys_filtered [] = refl
  keys_filtered (e ∷ es) = by (first e.0) (keys_filtered es)
    where
      by : (b : Bool) → keys_of (filter (λ e. first e.0) es) ≡ filter first (keys_of es)
          → keys_of (cond b (e ∷ filter (λ e. first e.0) es) (filter (λ e. first e.0) es)) ≡ cond b (e.0 ∷ filter first (keys_of es))
          (filter first (keys_of es))
      by true rest = ap (λ l. e.0 ∷ l) rest
      by false rest = rest

  values_filtered : (table : Table) → AllByRecursion (λ e. e.0 ≡ e.1.grain) table
      → values_of (filter (λ e. first e.0) table) ≡ filter (λ e. first e.grain) (values_of table)
  values_filtered [] own = refl
  values_filtered (e ∷ es) own =
      by (first e.0) (values_filtered es own.1)
      ∙ ap (λ b. cond b (e.1 ∷ filter (λ x. first x.grain) (values_of es)) (filter (λ x. first x.grain) (values_of es))) (ap first own.0)
    where
      by : (b : Bool) → values_of (filter (λ e. first e.0) es) ≡ filter (λ e. first e.grain) (values_of es)
          → values_of (cond b (e ∷ filter (λ e. first e.0) es) (filter (λ e. first e.0) es))
          ≡ cond b (e.1 ∷ filter (λ x. first x.grain) (values_of es)) (filter (λ x. first x.grain) (values_of es))
      by true rest = ap (λ l. e.1 ∷ l) rest
      by false rest = rest

-- ---- The order in which they are sorted.
abbrev pub listed_cmp : ℕ × Grain × ℕ → ℕ × Grain × ℕ → Ordering
listed_cmp x y = ordering_then (ordering_then (nat_cmp x.0 y.0) (grain_cmp x.1 y.1)) (nat_cmp x.2 y.2)

abbrev grains : List (ℕ × Grain × ℕ) → List Grain
grains firm = map (λ x. x.1) firm

module _ (asked : PageAsked) where
  abbrev order : Grain → Grain → Ordering
  order = standing_cmp (hash_grain asked.hashing) (asked.range ∷ [])

  total : IsTotalOrder order
  total = standing_total (hash_grain asked.hashing) (asked.range ∷ [])

  rises : (a b : Grain) (r : Ordering) → order b a ≡ r → is_lt r ≡ false → eq_by_cmp order a b ≡ false → order a b ≡ Less
  rises a b Less is not apart = cc
  rises a b Equal is not apart = let no : true ≡ false = sym (ap is_eq (total.antisymm a b ∙ ap ordering_reverse is)) ∙ apart in cc
  rises a b Greater is not apart = total.antisymm a b ∙ ap ordering_reverse is

  -- each is listed with how many hashes come before its grain's
  abbrev AreListed : List (ℕ × Grain × ℕ) → Type 0
  AreListed firm = All (λ x. x.0 ≡ steps_of asked x.1) firm

  sorted_strictly : (firm : List (ℕ × Grain × ℕ)) → AreListed firm → IsSorted listed_cmp firm
      → IsDistinct (eq_by_cmp order) (grains firm) → IsStrictlySortedBy order (grains firm)
  sorted_strictly [] are sorted apart = sorted-nil order
  sorted_strictly (x ∷ firm) are sorted apart =
      sorted_from_all_adjacent total (grains (x ∷ firm)) x.1
      (λ k within.
      let next : k + 1 < length (x ∷ firm) = subst (λ n. k + 1 < n) (length-map (x ∷ firm) (λ (y : ℕ × Grain × ℕ). y.1)) within in
      let this : k < length (x ∷ firm) = omega (arith, next) in
      rises (get_or (grains (x ∷ firm)) k x.1) (get_or (grains (x ∷ firm)) (k + 1) x.1)
      (order (get_or (grains (x ∷ firm)) (k + 1) x.1) (get_or (grains (x ∷ firm)) k x.1)) refl
      ((λ i. is_lt (order (get_or-map (λ (y : ℕ × Grain × ℕ). y.1) (x ∷ firm) (k + 1) x x.1 next i)
      (get_or-map (λ (y : ℕ × Grain × ℕ). y.1) (x ∷ firm) k x x.1 this i)))
      ∙ upward (get_or (x ∷ firm) k x) (get_or (x ∷ firm) (k + 1) x) (are k x this) (are (k + 1) x next) (sorted k x (omega arith) next))
      (apart_from_distinct (eq_by_cmp order) (grains (x ∷ firm)) k (k + 1) x.1 apart (omega arith) within))
    where
      upward : (a b : ℕ × Grain × ℕ) → a.0 ≡ steps_of asked a.1 → b.0 ≡ steps_of asked b.1 → is_lt (listed_cmp b a) ≡ false
          → is_lt (order b.1 a.1) ≡ false
      upward a b one other not =
          (λ i. is_lt (ordering_then (nat_cmp (sym other i) (sym one i)) (grain_cmp b.1 a.1)))
          ∙ first_from (ordering_then (nat_cmp b.0 a.0) (grain_cmp b.1 a.1)) (nat_cmp b.2 a.2) not

  module _ (silo : Silo) where
    abbrev keyed : ℕ × Grain × ℕ → Grain × Entry
    keyed x = (x.1, entry_listed silo x)

    -- ---- What is found of activations that are listed.
    found_listed : (q : Grain) (rows : List (Grain × Held)) → lookup (is_at (order q)) (map keyed (map (as_listed asked) rows))
        ≡ option_map (entry_on silo q) (lookup (is_at (grain_cmp q)) rows)
    found_listed q [] = refl
    found_listed q (e ∷ rows) =
        ap (λ b. cond b (Some (entry_on silo e.0 e.1)) (lookup (is_at (order q)) (map keyed (map (as_listed asked) rows))))
        (at_alike (hash_grain asked.hashing) (asked.range ∷ []) q e.0)
        ∙ on_grain (λ b. cond b (Some (entry_on silo e.0 e.1)) (lookup (is_at (order q)) (map keyed (map (as_listed asked) rows)))
        ≡ option_map (entry_on silo q) (cond b (Some e.1) (lookup (is_at (grain_cmp q)) rows))) q e.0
        (λ same. ap (λ (g : Grain). Some (entry_on silo g e.1)) (sym same)) (λ other. found_listed q rows)

    module _ (rows : List (Grain × Held)) (once : IsDistinct grain_eq (keys_of rows)) (firm sorted : List (ℕ × Grain × ℕ))
        (listed : firm ≡ map (as_listed asked) rows) (moved : IsPermutation firm sorted) (is : IsSorted listed_cmp sorted) where
      grains_listed : grains firm ≡ keys_of rows
      grains_listed = ap grains listed ∙ map_both (as_listed asked) (λ (x : ℕ × Grain × ℕ). x.1) rows

      apart : IsDistinct (eq_by_cmp order) (grains sorted)
      apart =
          IsDistinct-IsPermutation (eq_by_cmp order) (eq_by_cmp_equiv total).symm (grains firm) (grains sorted)
          (IsPermutation-map (λ (x : ℕ × Grain × ℕ). x.1) firm sorted moved)
          (subst (λ gs. IsDistinct (eq_by_cmp order) gs) (sym grains_listed)
          (subst (λ (test : Grain → Grain → Bool). IsDistinct test (keys_of rows))
          (λ i a b. (same_test a b ∙ sym (at_alike (hash_grain asked.hashing) (asked.range ∷ []) a b)) i) once))

      are_listed : AreListed sorted
      are_listed =
          All-permutation (λ (x : ℕ × Grain × ℕ). x.0 ≡ steps_of asked x.1) firm sorted moved
          (subst AreListed (sym listed)
          (All-map (λ (x : ℕ × Grain × ℕ). x.0 ≡ steps_of asked x.1) (as_listed asked) rows (λ k d within. refl)))

      keys_sorted : keys_of (map keyed sorted) ≡ grains sorted
      keys_sorted = map_both keyed (λ (e : Grain × Entry). e.0) sorted

      found_sorted : (q : Grain) → lookup (is_at (order q)) (map keyed sorted)
          ≡ option_map (entry_on silo q) (lookup (is_at (grain_cmp q)) rows)
      found_sorted q =
          lookup_permutation (eq_by_cmp_equiv total) (map keyed firm) (map keyed sorted) (IsPermutation-map keyed firm sorted moved)
          (subst (λ gs. IsDistinct (eq_by_cmp order) gs) (sym keys_sorted) apart) (is_at (order q)) ((eq_by_cmp_equiv total).congr q)
          ∙ ap (λ l. lookup (is_at (order q)) (map keyed l)) listed
          ∙ found_listed q rows

      module _ (es : List (Grain × Held)) (es_apart : IsDistinct grain_eq (keys_of es)) (first : Grain → Bool)
          (found : (q : Grain) → lookup (is_at (grain_cmp q)) rows
          ≡ passing (λ e. is_told asked.hashing asked.range e && first e.0) q (lookup (is_at (grain_cmp q)) es)) where
        abbrev standing : Table
        standing =
            put_as_they_stand (hash_grain asked.hashing) (asked.range ∷ []) []
            (map (λ e. entry_on silo e.0 e.1) (filter (is_told asked.hashing asked.range) es))

        both_pass : (q : Grain) (o : Option Held)
            → option_map (entry_on silo q) (passing (λ e. is_told asked.hashing asked.range e && first e.0) q o)
            ≡ cond (first q) (option_map (entry_on silo q) (passing (is_told asked.hashing asked.range) q o)) None
        both_pass q None = by (first q)
          where
            by : (b : Bool) → option_map (entry_on silo q) None ≡ cond b (option_map (entry_on silo q) None) None
            by true = refl
            by false = refl
        both_pass q (Some h) = by (is_told asked.hashing asked.range (q, h)) (first q)
          where
            by : (a b : Bool) → option_map (entry_on silo q) (cond (a && b) (Some h) None)
                ≡ cond b (option_map (entry_on silo q) (cond a (Some h) None)) None
            by true true = refl
            by true false = refl
            by false true = refl
            by false false = refl

        same_found : (q : Grain) → lookup (is_at (order q)) (map keyed sorted)
            ≡ lookup (is_at (order q)) (filter (λ e. first e.0) standing)
        same_found q =
            found_sorted q
            ∙ ap (option_map (entry_on silo q)) (found q)
            ∙ both_pass q (lookup (is_at (grain_cmp q)) es)
            ∙ ap (λ o. cond (first q) o None)
            (sym (found_standing (hash_grain asked.hashing) (asked.range ∷ []) silo (is_told asked.hashing asked.range) q es es_apart))
            ∙ sym (lookup-filter-keys (is_at (order q)) first (first q)
            (λ k at. ap first (sym (standing_exact (hash_grain asked.hashing) (asked.range ∷ []) q k (Equal-from (order q k) at))))
            standing)

        standing_sorted : IsStrictlySortedBy order (keys_of (filter (λ e. first e.0) standing))
        standing_sorted =
            subst (λ gs. IsStrictlySortedBy order gs) (sym (keys_filtered first standing))
            (IsStrictlySortedBy-filter order first (keys_of standing)
            (put_sorted (hash_grain asked.hashing) (asked.range ∷ [])
            (map (λ e. entry_on silo e.0 e.1) (filter (is_told asked.hashing asked.range) es)) [] (sorted-nil order)))

        pub listed_as_they_stand : map (entry_listed silo) sorted
            ≡ filter (λ e. first e.grain) (as_they_stand (hash_grain asked.hashing) (asked.range ∷ [])
            (map (λ e. entry_on silo e.0 e.1) (filter (is_told asked.hashing asked.range) es)))
        listed_as_they_stand =
            sym (map_both keyed (λ (e : Grain × Entry). e.1) sorted)
            ∙ ap values_of
            (same_entries total (standing_exact (hash_grain asked.hashing) (asked.range ∷ [])) (map keyed sorted)
            (filter (λ e. first e.0) standing)
            (subst (λ gs. IsStrictlySortedBy order gs) (sym keys_sorted) (sorted_strictly sorted are_listed is apart)) standing_sorted
            same_found)
            ∙ values_filtered first standing
            (own_all (hash_grain asked.hashing) (asked.range ∷ [])
            (map (λ e. entry_on silo e.0 e.1) (filter (is_told asked.hashing asked.range) es)) [] tt)
