-- Those entries of a table that pass a test: it is the same to pick them by hash and by grain.
use Rattle.std.proofs.Common.{◌≡◌, refl, sym, ap, ◌∙◌, ℕ, List, [], ◌∷◌}
use Rattle.std.specs.Prelude.{Bool, true, false, cond, not, ◌&&◌, Option, Some, None, filter}
use Rattle.std.specs.Option.{option_map}
use Rattle.std.specs.List.{AllByRecursion}
use Rattle.std.specs.List.Sorted.{IsStrictlySortedBy}
use Rattle.std.specs.Map.{lookup, keys_of}
use Rattle.std.specs.BTreeMap.{is_at}
use Rattle.std.specs.declared.cmp.Ordering.{Ordering}
use Rattle.std.specs.declared.cmp.Ordering.TheVariants.{Less}
use Rattle.std.proofs.lemmas.Cmp.{eq_by_cmp_equiv}
use Rattle.std.proofs.lemmas.Map.Entries.{lookup-filter-keys, lookup-filter-values, option_filter}
use Rattle.std.proofs.lemmas.Map.Keys.{IsDistinct-from_sorted}
use Rattle.texts.proofs.Orderings.{Equal-from}
use Rattle.silo_address.specs.Grain.{Grain, grain_cmp}
use Rattle.silo_address.specs.declared.ActivationId.{ActivationId}
use Rattle.silo_address.specs.declared.Entry.{Entry}
use Rattle.silo_address.proofs.Order.{grain_cmp_total, grain_cmp_exact}
use Rattle.membership_view.specs.View.{ViewValue}
use Rattle.ring_range.specs.Range.{Range, holds}
use Rattle.hash_ring.specs.declared.Hashing.{Hashing}
use Rattle.hash_ring.specs.Hash.{hash_grain}
use Rattle.directory_rules.specs.Members.{is_dead_in}
use Rattle.directory_rules.specs.Sight.{is_kept}
use Rattle.directory_rules.specs.State.{Table}
use Rattle.directory_rules.specs.Table.{entries_of, entry_at}
use Rattle.grain_table.specs.declared.hashed_grain.HashedGrain.{HashedGrain}
use Rattle.grain_table.specs.Hashed.{AreHashed, Hashed, IsKeyOf, by_grain, hashed_cmp, key_of}
use Rattle.grain_table.proofs.Order.{hashed_cmp_total, hashed_cmp_exact}
use Rattle.grain_table.proofs.ByGrain.{IsTable, by_grain_is_table, entry_of, found, found_by_grain, same_tables}

module _ {K X : Type 0} (p : K × X → Bool) where
  pub all_passed : (P : K × X → Type 0) (es : List (K × X)) → AllByRecursion P es → AllByRecursion P (filter p es)
  all_passed P [] all = tt
  all_passed P (e ∷ es) all = by (p e) (all_passed P es all.1)
    where
      by : (b : Bool) → AllByRecursion P (filter p es) → AllByRecursion P (cond b (e ∷ filter p es) (filter p es))
      by true rest = (all.0, rest)
      by false rest = rest

  all_keys_passed : (P : K → Type 0) (es : List (K × X)) → AllByRecursion P (keys_of es) → AllByRecursion P (keys_of (filter p es))
  all_keys_passed P [] all = tt
  all_keys_passed P (e ∷ es) all = by (p e) (all_keys_passed P es all.1)
    where
      by : (b : Bool) → AllByRecursion P (keys_of (filter p es)) → AllByRecursion P (keys_of (cond b (e ∷ filter p es) (filter p es)))
      by true rest = (all.0, rest)
      by false rest = rest

  pub sorted_passed : (R : K → K → Ordering) (es : List (K × X)) → IsStrictlySortedBy R (keys_of es)
      → IsStrictlySortedBy R (keys_of (filter p es))
  unfolding IsStrictlySortedBy
  sorted_passed R [] s = tt
  sorted_passed R (e ∷ es) s = by (p e) (sorted_passed R es s.1)
    where
      by : (b : Bool) → IsStrictlySortedBy R (keys_of (filter p es))
          → IsStrictlySortedBy R (keys_of (cond b (e ∷ filter p es) (filter p es)))
      by true rest = (all_keys_passed (λ k. R e.0 k ≡ Less) es s.0, rest)
      by false rest = rest

  -- two tests that agree on all pick the same
  pub same_passed : (q : K × X → Bool) (es : List (K × X)) → AllByRecursion (λ e. p e ≡ q e) es → filter p es ≡ filter q es
  same_passed q [] all = refl
  same_passed q (e ∷ es) all = λ i. cond (all.0 i) (e ∷ same_passed q es all.1 i) (same_passed q es all.1 i)

pub passed_is_table : (p : Grain × Entry → Bool) (table : Table) → IsTable table → IsTable (filter p table)
passed_is_table p table is =
    record { in_order = sorted_passed p grain_cmp table is.in_order; under = all_passed p (λ e. e.1.grain ≡ e.0) table is.under }

pub passed_are_hashed : (hashing : Hashing) (p : HashedGrain × ActivationId → Bool) (es : Hashed) → AreHashed hashing es
    → AreHashed hashing (filter p es)
passed_are_hashed hashing p es are =
    record { in_order = sorted_passed p hashed_cmp es are.in_order; keys = all_keys_passed p (IsKeyOf hashing) es are.keys }

-- ---- By a test of the hash.
module _ (hashing : Hashing) (p : ℕ → Bool) where
  -- what is found among those that pass
  pub found_passed : (es : Hashed) → AreHashed hashing es → (grain : Grain)
      → entry_at grain (by_grain (filter (λ e. p e.0.hash) es)) ≡ cond (p (hash_grain hashing grain)) (entry_at grain (by_grain es)) None
  found_passed es are grain =
      found_by_grain hashing (filter (λ e. p e.0.hash) es) (passed_are_hashed hashing (λ e. p e.0.hash) es are).keys grain
      ∙ ap (option_map (entry_of grain)) (lookup-filter-keys (is_at (hashed_cmp (key_of hashing grain))) (λ k. p k.hash)
      (p (hash_grain hashing grain)) at es)
      ∙ by (p (hash_grain hashing grain))
      ∙ ap (λ o. cond (p (hash_grain hashing grain)) o None) (sym (found_by_grain hashing es are.keys grain))
    where
      at : (key : HashedGrain) → is_at (hashed_cmp (key_of hashing grain)) key ≡ true → p key.hash ≡ p (hash_grain hashing grain)
      at key is =
          ap (λ (k : HashedGrain). p k.hash) (sym (hashed_cmp_exact (key_of hashing grain) key
          (Equal-from (hashed_cmp (key_of hashing grain) key) is)))

      by : (b : Bool) → option_map (entry_of grain) (cond b (lookup (is_at (hashed_cmp (key_of hashing grain))) es) None) ≡ cond b
          (found hashing grain es) None
      by true = refl
      by false = refl

  pub passed_by_grain : (es : Hashed) → AreHashed hashing es
      → by_grain (filter (λ e. p e.0.hash) es) ≡ filter (λ e. p (hash_grain hashing e.0)) (by_grain es)
  passed_by_grain es are =
      same_tables (by_grain (filter (λ e. p e.0.hash) es)) (filter (λ e. p (hash_grain hashing e.0)) (by_grain es))
      (by_grain_is_table (filter (λ e. p e.0.hash) es))
      (passed_is_table (λ e. p (hash_grain hashing e.0)) (by_grain es) (by_grain_is_table es))
      (λ grain. found_passed es are grain
      ∙ sym (lookup-filter-keys (is_at (grain_cmp grain)) (λ g. p (hash_grain hashing g)) (p (hash_grain hashing grain)) (at grain)
      (by_grain es)))
    where
      at : (grain other : Grain) → is_at (grain_cmp grain) other ≡ true → p (hash_grain hashing other) ≡ p (hash_grain hashing grain)
      at grain other is = ap (λ g. p (hash_grain hashing g)) (sym (grain_cmp_exact grain other (Equal-from (grain_cmp grain other) is)))

-- the entries of those that pass
pub entries_passed : (p : Grain → Bool) (table : Table) → IsTable table
    → entries_of (filter (λ e. p e.0) table) ≡ filter (λ e. p e.grain) (entries_of table)
entries_passed p table is = each table is.under
  where
    by : (e : Grain × Entry) (es : Table) (rest : List Entry) (b : Bool) → entries_of es ≡ rest
        → entries_of (cond b (e ∷ es) es) ≡ cond b (e.1 ∷ rest) rest
    by e es rest true is = ap (λ l. e.1 ∷ l) is
    by e es rest false is = is

    each : (es : Table) → AllByRecursion (λ e. e.1.grain ≡ e.0) es
        → entries_of (filter (λ e. p e.0) es) ≡ filter (λ e. p e.grain) (entries_of es)
    each [] all = refl
    each (e ∷ es) all =
        by e (filter (λ e. p e.0) es) (filter (λ e. p e.grain) (entries_of es)) (p e.0) (each es all.1)
        ∙ ap (λ g. cond (p g) (e.1 ∷ filter (λ e. p e.grain) (entries_of es)) (filter (λ e. p e.grain) (entries_of es))) (sym all.0)

-- ---- By a test of the grain.
pub grains_by_grain : (hashing : Hashing) (p : Grain → Bool) (es : Hashed) → AreHashed hashing es
    → by_grain (filter (λ e. p e.0.grain) es) ≡ filter (λ e. p e.0) (by_grain es)
grains_by_grain hashing p es are =
    same_tables (by_grain (filter (λ e. p e.0.grain) es)) (filter (λ e. p e.0) (by_grain es))
    (by_grain_is_table (filter (λ e. p e.0.grain) es))
    (passed_is_table (λ e. p e.0) (by_grain es) (by_grain_is_table es))
    (λ grain.
    found_by_grain hashing (filter (λ e. p e.0.grain) es) (passed_are_hashed hashing (λ e. p e.0.grain) es are).keys grain
    ∙ ap (option_map (entry_of grain)) (lookup-filter-keys (is_at (hashed_cmp (key_of hashing grain))) (λ k. p k.grain) (p grain)
    (under grain) es)
    ∙ by grain (p grain)
    ∙ ap (λ o. cond (p grain) o None) (sym (found_by_grain hashing es are.keys grain))
    ∙ sym (lookup-filter-keys (is_at (grain_cmp grain)) p (p grain) (at grain) (by_grain es)))
  where
    under : (grain : Grain) (key : HashedGrain) → is_at (hashed_cmp (key_of hashing grain)) key ≡ true → p key.grain ≡ p grain
    under grain key is =
        ap (λ (k : HashedGrain). p k.grain) (sym (hashed_cmp_exact (key_of hashing grain) key
        (Equal-from (hashed_cmp (key_of hashing grain) key) is)))

    at : (grain other : Grain) → is_at (grain_cmp grain) other ≡ true → p other ≡ p grain
    at grain other is = ap p (sym (grain_cmp_exact grain other (Equal-from (grain_cmp grain other) is)))

    by : (grain : Grain) (b : Bool) → option_map (entry_of grain) (cond b (lookup (is_at (hashed_cmp (key_of hashing grain))) es) None)
        ≡ cond b (found hashing grain es) None
    by grain true = refl
    by grain false = refl

-- ---- By a test of the activation.
pub living_by_grain : (hashing : Hashing) (p : ActivationId → Bool) (es : Hashed) → AreHashed hashing es
    → by_grain (filter (λ e. p e.1) es) ≡ filter (λ e. p e.1.activation) (by_grain es)
living_by_grain hashing p es are =
    same_tables (by_grain (filter (λ e. p e.1) es)) (filter (λ e. p e.1.activation) (by_grain es))
    (by_grain_is_table (filter (λ e. p e.1) es))
    (passed_is_table (λ e. p e.1.activation) (by_grain es) (by_grain_is_table es))
    (λ grain.
    found_by_grain hashing (filter (λ e. p e.1) es) (passed_are_hashed hashing (λ e. p e.1) es are).keys grain
    ∙ ap (option_map (entry_of grain))
    (lookup-filter-values (eq_by_cmp_equiv hashed_cmp_total) p (key_of hashing grain) es
    (IsDistinct-from_sorted hashed_cmp (keys_of es) are.in_order))
    ∙ by grain (lookup (is_at (hashed_cmp (key_of hashing grain))) es)
    ∙ ap (option_filter (λ (e : Entry). p e.activation)) (sym (found_by_grain hashing es are.keys grain))
    ∙ sym (lookup-filter-values (eq_by_cmp_equiv grain_cmp_total) (λ (e : Entry). p e.activation) grain (by_grain es)
    (IsDistinct-from_sorted grain_cmp (keys_of (by_grain es)) (by_grain_is_table es).in_order)))
  where
    some : (grain : Grain) (a : ActivationId) (b : Bool)
        → option_map (entry_of grain) (cond b (Some a) None) ≡ cond b (Some (entry_of grain a)) None
    some grain a true = refl
    some grain a false = refl

    by : (grain : Grain) (o : Option ActivationId) → option_map (entry_of grain) (option_filter p o) ≡ option_filter
        (λ (e : Entry). p e.activation) (option_map (entry_of grain) o)
    by grain None = refl
    by grain (Some a) = some grain a (p a)

-- ---- By both.
pub kept_of : (hashing : Hashing) (view : ViewValue) (range : Range) (table : Table) → IsTable table
    → filter (λ e. not (is_dead_in view e.1.activation.silo)) (filter (λ e. holds range (hash_grain hashing e.0)) table) ≡ filter
    (λ e. is_kept hashing view range e.1) table
kept_of hashing view range table is = each table is.under
  where
    is_living : Grain × Entry → Bool
    is_living e = not (is_dead_in view e.1.activation.silo)

    is_within : Grain × Entry → Bool
    is_within e = holds range (hash_grain hashing e.0)

    both : (e : Grain × Entry) (es kept : Table) → filter is_living es ≡ kept → (b c : Bool) → is_living e ≡ c
        → filter is_living (cond b (e ∷ es) es) ≡ cond (b && c) (e ∷ kept) kept
    both e es kept rest true true is = (λ i. cond (is i) (e ∷ rest i) (rest i))
    both e es kept rest true false is = (λ i. cond (is i) (e ∷ rest i) (rest i))
    both e es kept rest false c is = rest

    each : (es : Table) → AllByRecursion (λ e. e.1.grain ≡ e.0) es
        → filter is_living (filter is_within es) ≡ filter (λ e. is_kept hashing view range e.1) es
    each [] all = refl
    each (e ∷ es) all =
        both e (filter is_within es) (filter (λ e. is_kept hashing view range e.1) es) (each es all.1) (is_within e) (is_living e) refl
        ∙ ap (λ g. cond (holds range (hash_grain hashing g) && is_living e) (e ∷ filter (λ e. is_kept hashing view range e.1) es)
        (filter (λ e. is_kept hashing view range e.1) es)) (sym all.0)
