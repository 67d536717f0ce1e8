-- Entries of different grains that are sorted are those of a table, in its order.
use Rattle.std.proofs.Common.{arith, ◌≡◌, refl, sym, ap, ◌∙◌, subst, ℕ, suc, ◌+◌, ◌≤◌, List, [], ◌∷◌}
use Rattle.std.specs.Prelude.{Bool, true, false, cond, All, Option, Some, None, sum_by}
use Rattle.std.specs.List.{AllByRecursion, slice_index_or}
use Rattle.std.specs.List.Sorted.{IsPermutation, IsSorted, IsStrictlySortedBy}
use Rattle.std.specs.Map.{keys_of}
use Rattle.std.specs.BTreeMap.{is_at}
use Rattle.std.specs.Ordering.{is_eq, is_lt, ordering_reverse, ordering_then}
use Rattle.std.specs.declared.cmp.Ordering.{Ordering}
use Rattle.std.specs.declared.cmp.Ordering.TheVariants.{Less, Equal, Greater}
use Rattle.std.proofs.lemmas.Cmp.{tied_itself}
use Rattle.std.proofs.lemmas.List.Elements.{All-cons, All-head, All-tail}
use Rattle.std.proofs.lemmas.List.Sorted.{All-permutation, IsPermutation-sym, sum_by-IsPermutation}
use Rattle.std.proofs.lemmas.List.Sums.{sum_by-cons}
use Rattle.texts.proofs.Orderings.{Equal-from}
use Rattle.silo_address.specs.Activation.{activation_cmp, entry_cmp}
use Rattle.silo_address.specs.Grain.{Grain, grain_cmp}
use Rattle.silo_address.specs.declared.Entry.{Entry}
use Rattle.silo_address.proofs.Order.{grain_cmp_total, grain_cmp_exact}
use Rattle.hash_ring.specs.declared.Hashing.{Hashing}
use Rattle.directory_rules.specs.State.{Table}
use Rattle.directory_rules.specs.Table.{entries_of, entry_at, table_of}
use Rattle.directory_rules.proofs.RisingTables.{entries_again, under_grains}
use Rattle.grain_table.specs.Hashed.{AreHashed, Hashed, by_grain}
use Rattle.grain_table.proofs.ByGrain.{IsTable, by_grain_is_table, same_tables}
use Rattle.grain_table.proofs.Put.{IsOnce, entries_under, found_under, hashed_once, table_again, table_once}
use Rattle.grain_table.proofs.Same.{same_found}

-- ---- Each grain once, however the entries stand.

-- how many entries the grain has
abbrev times : Grain → List Entry → ℕ
times grain [] = 0
times grain (entry ∷ entries) = cond (is_at (grain_cmp grain) entry.grain) 1 0 + times grain entries

times_is : (grain : Grain) (entries : List Entry) → times grain entries ≡ sum_by (λ e. cond (is_at (grain_cmp grain) e.grain) 1 0) entries
times_is grain [] = refl
times_is grain (entry ∷ entries) =
    ap (λ n. cond (is_at (grain_cmp grain) entry.grain) 1 0 + n) (times_is grain entries)
    ∙ sym (sum_by-cons (λ (e : Entry). cond (is_at (grain_cmp grain) e.grain) 1 0) entry entries)

times_moved : (grain : Grain) (one other : List Entry) → IsPermutation one other → times grain other ≡ times grain one
times_moved grain one other moved =
    times_is grain other ∙ sum_by-IsPermutation (λ (e : Entry). cond (is_at (grain_cmp grain) e.grain) 1 0) one other moved
    ∙ sym (times_is grain one)

none_from_times : (grain : Grain) (entries : List Entry) → times grain entries ≡ 0 → entry_at grain (table_of entries) ≡ None
none_from_times grain [] zero = refl
none_from_times grain (entry ∷ entries) zero = by (is_at (grain_cmp grain) entry.grain) zero (none_from_times grain entries)
  where
    by : (b : Bool) → cond b 1 0 + times grain entries ≡ 0 → (times grain entries ≡ 0 → entry_at grain (table_of entries) ≡ None)
        → cond b (Some entry) (entry_at grain (table_of entries)) ≡ None
    by true zero later = absurd (omega arith)
    by false zero later = later (omega arith)

times_from_none : (grain : Grain) (entries : List Entry) → entry_at grain (table_of entries) ≡ None → times grain entries ≡ 0
times_from_none grain [] none = refl
times_from_none grain (entry ∷ entries) none = by (is_at (grain_cmp grain) entry.grain) none (times_from_none grain entries)
  where
    by : (b : Bool) → cond b (Some entry) (entry_at grain (table_of entries)) ≡ None
        → (entry_at grain (table_of entries) ≡ None → times grain entries ≡ 0)
        → cond b 1 0 + times grain entries ≡ 0
    by true none later = cc
    by false none later = let zero : times grain entries ≡ 0 = later none in omega arith

few_from_once : (entries : List Entry) → IsOnce entries → (grain : Grain) → times grain entries ≤ 1
few_from_once [] once grain = omega arith
few_from_once (entry ∷ entries) once grain = by (is_at (grain_cmp grain) entry.grain) refl (few_from_once entries once.1 grain)
  where
    by : (b : Bool) → is_at (grain_cmp grain) entry.grain ≡ b → times grain entries ≤ 1 → cond b 1 0 + times grain entries ≤ 1
    by true at few =
        let zero : times grain entries ≡ 0 =
        times_from_none grain entries (ap (λ g. entry_at g (table_of entries))
        (grain_cmp_exact grain entry.grain (Equal-from (grain_cmp grain entry.grain) at)) ∙ once.0) in
        omega arith
    by false at few = omega arith

once_from_few : (entries : List Entry) → ((grain : Grain) → times grain entries ≤ 1) → IsOnce entries
once_from_few [] few = tt
once_from_few (entry ∷ entries) few = (none_from_times entry.grain entries here, once_from_few entries behind)
  where
    one : times entry.grain (entry ∷ entries) ≡ 1 + times entry.grain entries
    one = ap (λ b. cond b 1 0 + times entry.grain entries) (ap is_eq (tied_itself grain_cmp_total entry.grain))

    here : times entry.grain entries ≡ 0
    here = omega (arith, one, few entry.grain)

    fewer : (b : Bool) (n : ℕ) → cond b 1 0 + n ≤ 1 → n ≤ 1
    fewer true n few = omega arith
    fewer false n few = omega arith

    behind : (grain : Grain) → times grain entries ≤ 1
    behind grain = fewer (is_at (grain_cmp grain) entry.grain) (times grain entries) (few grain)

-- ---- What is found of entries.

-- each is found under its grain
abbrev Found : Table → List Entry → Type 0
Found table entries = All (λ e. entry_at e.grain table ≡ Some e) entries

found_own : (entries : List Entry) → IsOnce entries → Found (table_of entries) entries
found_own [] once = λ k d lt. absurd (omega arith)
found_own (entry ∷ entries) once =
    All-cons (λ (e : Entry). entry_at e.grain (table_of (entry ∷ entries)) ≡ Some e) entry entries
    (ap (λ b. cond b (Some entry) (entry_at entry.grain (table_of entries))) (ap is_eq (tied_itself grain_cmp_total entry.grain)))
    (λ k d lt. later (slice_index_or entries k d) (found_own entries once.1 k d lt))
  where
    later : (e : Entry) → entry_at e.grain (table_of entries) ≡ Some e → entry_at e.grain (table_of (entry ∷ entries)) ≡ Some e
    later e is = by (is_at (grain_cmp e.grain) entry.grain) refl
      where
        by : (b : Bool) → is_at (grain_cmp e.grain) entry.grain ≡ b → cond b (Some entry) (entry_at e.grain (table_of entries)) ≡ Some e
        by true at =
            let none : entry_at e.grain (table_of entries) ≡ None =
            ap (λ g. entry_at g (table_of entries)) (grain_cmp_exact e.grain entry.grain (Equal-from (grain_cmp e.grain entry.grain) at))
            ∙ once.0 in
            let no : None ≡ Some e = sym none ∙ is in cc
        by false at = is

found_of : (entries : List Entry) (table : Table) → Found table entries → (grain : Grain) (found : Entry)
    → entry_at grain (table_of entries) ≡ Some found → entry_at grain table ≡ Some found
found_of [] table all grain found is = cc
found_of (entry ∷ entries) table all grain found is =
    by (is_at (grain_cmp grain) entry.grain) refl is
    (found_of entries table (All-tail (λ (e : Entry). entry_at e.grain table ≡ Some e) entry entries all) grain found)
  where
    by : (b : Bool) → is_at (grain_cmp grain) entry.grain ≡ b → cond b (Some entry) (entry_at grain (table_of entries)) ≡ Some found
        → (entry_at grain (table_of entries) ≡ Some found → entry_at grain table ≡ Some found) → entry_at grain table ≡ Some found
    by true at is later =
        ap (λ g. entry_at g table) (grain_cmp_exact grain entry.grain (Equal-from (grain_cmp grain entry.grain) at))
        ∙ All-head (λ (e : Entry). entry_at e.grain table ≡ Some e) entry entries all ∙ is
    by false at is later = later is

-- the same is found in whatever order they stand
found_moved : (one other : List Entry) → IsOnce one → IsOnce other → IsPermutation one other → (grain : Grain)
    → entry_at grain (table_of other) ≡ entry_at grain (table_of one)
found_moved one other once too moved grain =
    same_found (entry_at grain (table_of other)) (entry_at grain (table_of one))
    (found_of other (table_of one) (All-permutation (λ (e : Entry). entry_at e.grain (table_of one) ≡ Some e) one other moved
    (found_own one once)) grain)
    (found_of one (table_of other) (All-permutation (λ (e : Entry). entry_at e.grain (table_of other) ≡ Some e) other one
    (IsPermutation-sym one other moved) (found_own other too)) grain)

-- ---- Sorted entries stand as in a table.
not_first : (b : Bool) (entry : Entry) (o : Option Entry) → cond b (Some entry) o ≡ None → b ≡ false
not_first true entry o none = cc
not_first false entry o none = refl

first_below : (one next : Entry) → is_lt (entry_cmp next one) ≡ false → is_at (grain_cmp one.grain) next.grain ≡ false
    → grain_cmp one.grain next.grain ≡ Less
first_below one next sorted other = by (grain_cmp next.grain one.grain) refl sorted
  where
    by : (o : Ordering) → grain_cmp next.grain one.grain ≡ o
        → is_lt (ordering_then o (activation_cmp next.activation one.activation)) ≡ false → grain_cmp one.grain next.grain ≡ Less
    by Less is not = cc
    by Equal is not =
        let tied : grain_cmp one.grain next.grain ≡ Equal = grain_cmp_total.antisymm one.grain next.grain ∙ ap ordering_reverse is in
        let no : true ≡ false = sym (ap is_eq tied) ∙ other in cc
    by Greater is not = grain_cmp_total.antisymm one.grain next.grain ∙ ap ordering_reverse is

all_above : (one next : Grain) (grains : List Grain) → grain_cmp one next ≡ Less → AllByRecursion (λ g. grain_cmp next g ≡ Less) grains
    → AllByRecursion (λ g. grain_cmp one g ≡ Less) grains
all_above one next [] below above = tt
all_above one next (grain ∷ grains) below above =
    (grain_cmp_total.trans one next grain below above.0, all_above one next grains below above.1)

sorted_behind : (entry : Entry) (entries : List Entry) → IsSorted entry_cmp (entry ∷ entries) → IsSorted entry_cmp entries
sorted_behind entry entries sorted = λ k d low within.
    subst (λ n. is_lt (entry_cmp (slice_index_or (entry ∷ entries) n d) (slice_index_or entries k d)) ≡ false) (next k)
    (sorted (suc k) d (omega arith) (omega arith))
  where
    next : (k : ℕ) → suc k + 1 ≡ suc (k + 1)
    next k = omega arith

strictly_sorted : (entries : List Entry) → IsOnce entries → IsSorted entry_cmp entries
    → IsStrictlySortedBy grain_cmp (keys_of (table_of entries))
unfolding IsStrictlySortedBy
strictly_sorted [] once sorted = tt
strictly_sorted (entry ∷ []) once sorted = (tt, tt)
strictly_sorted (entry ∷ next ∷ entries) once sorted =
    let behind = strictly_sorted (next ∷ entries) once.1 (sorted_behind entry (next ∷ entries) sorted) in
    let below : grain_cmp entry.grain next.grain ≡ Less =
    first_below entry next (sorted 0 entry (omega arith) (omega arith))
    (not_first (is_at (grain_cmp entry.grain) next.grain) next (entry_at entry.grain (table_of entries)) once.0) in
    ((below, all_above entry.grain next.grain (keys_of (table_of entries)) below behind.0), behind)

module _ (one : List Entry) (once : IsOnce one) (table : Table) (is : IsTable table)
    (found : (grain : Grain) → entry_at grain (table_of one) ≡ entry_at grain table) where
  sorted_once : (sorted : List Entry) → IsPermutation one sorted → IsSorted entry_cmp sorted → sorted ≡ entries_of table
  sorted_once sorted moved in_order =
      sym (entries_again sorted)
      ∙ ap entries_of
      (same_tables (table_of sorted) table (record { in_order = strictly_sorted sorted too in_order; under = under_grains sorted }) is
      (λ grain. found_moved one sorted once too moved grain ∙ found grain))
    where
      too : IsOnce sorted
      too = once_from_few sorted (λ grain. subst (λ n. n ≤ 1) (sym (times_moved grain one sorted moved)) (few_from_once one once grain))

-- a map's entries, sorted, are those of the table by grain
pub sorted_by_grain : (hashing : Hashing) (es : Hashed) → AreHashed hashing es → (sorted : List Entry)
    → IsPermutation (entries_under es) sorted → IsSorted entry_cmp sorted
    → sorted ≡ entries_of (by_grain es)
sorted_by_grain hashing es are =
    sorted_once (entries_under es) (hashed_once hashing es are) (by_grain es) (by_grain_is_table es) (λ grain. found_under grain es)

-- and those of a table, sorted, are in its order
pub sorted_again : (table : Table) → IsTable table → (sorted : List Entry) → IsPermutation (entries_of table) sorted
    → IsSorted entry_cmp sorted → sorted ≡ entries_of table
sorted_again table is = sorted_once (entries_of table) (table_once table is) table is (λ grain. ap (entry_at grain) (table_again table is))
