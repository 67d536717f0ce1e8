-- How many entries of a table pass a test of their grains, in either order.
use Rattle.std.proofs.Common.{arith, ◌≡◌, refl, sym, ap, ◌∙◌, ◌+◌, List, [], ◌∷◌, length}
use Rattle.std.specs.Prelude.{Bool, true, cond, count_by, filter, Some, None}
use Rattle.std.specs.Map.{lookup}
use Rattle.std.specs.BTreeMap.{insert_entry, is_at}
use Rattle.std.specs.Ordering.{is_eq, match_ordering}
use Rattle.std.specs.declared.cmp.Ordering.{Ordering}
use Rattle.std.specs.declared.cmp.Ordering.TheVariants.{Less, Equal, Greater}
use Rattle.std.proofs.lemmas.List.Sums.{length-filter, sum_by-cons}
use Rattle.std.proofs.lemmas.Map.Entries.{length-values_of}
use Rattle.silo_address.specs.Grain.{Grain, grain_cmp}
use Rattle.silo_address.specs.declared.ActivationId.{ActivationId}
use Rattle.silo_address.specs.declared.Entry.{Entry}
use Rattle.texts.proofs.Decided.{both}
use Rattle.ring_range.specs.Range.{Range, holds}
use Rattle.hash_ring.specs.declared.Hashing.{Hashing}
use Rattle.hash_ring.specs.Hash.{hash_grain}
use Rattle.directory_rules.specs.State.{Table}
use Rattle.directory_rules.specs.Table.{entries_of, entry_at, lie_in}
use Rattle.grain_table.specs.declared.hashed_grain.HashedGrain.{HashedGrain}
use Rattle.grain_table.specs.Hashed.{AreHashed, Hashed, by_grain, entry_under}
use Rattle.grain_table.proofs.Count.{are_behind, none_behind}

-- entries that lie in the range all pass
pub all_pass : (hashing : Hashing) (range : Range) (entries : List Entry) → lie_in hashing range entries ≡ true
    → filter (λ e. holds range (hash_grain hashing e.grain)) entries ≡ entries
all_pass hashing range [] lie = refl
all_pass hashing range (e ∷ entries) lie =
    let so = both (holds range (hash_grain hashing e.grain)) (lie_in hashing range entries) lie in
    ap (λ b. cond b (e ∷ filter (λ e. holds range (hash_grain hashing e.grain)) entries)
    (filter (λ e. holds range (hash_grain hashing e.grain)) entries)) so.0
    ∙ ap (λ l. e ∷ l) (all_pass hashing range entries so.1)

-- then as many pass as the table has
pub all_counted : (hashing : Hashing) (range : Range) (table : Table) → lie_in hashing range (entries_of table) ≡ true
    → length table ≡ length (filter (λ e. holds range (hash_grain hashing e.grain)) (entries_of table))
all_counted hashing range table lie = sym (length-values_of table) ∙ sym (ap length (all_pass hashing range (entries_of table) lie))

-- one more is put in
counted_inserted : (q : Entry → Bool) (grain : Grain) (entry : Entry) (table : Table) → entry_at grain table ≡ None
    → count_by q (entries_of (insert_entry grain_cmp table grain entry)) ≡ cond (q entry) 1 0 + count_by q (entries_of table)
counted_inserted q grain entry [] absent = sum_by-cons (λ x. cond (q x) 1 0) entry []
counted_inserted q grain entry (e ∷ es) absent = by (grain_cmp grain e.0) absent (counted_inserted q grain entry es)
  where
    by : (r : Ordering) → cond (is_eq r) (Some e.1) (lookup (is_at (grain_cmp grain)) es) ≡ None
        → (entry_at grain es ≡ None → count_by q (entries_of (insert_entry grain_cmp es grain entry)) ≡ cond (q entry) 1 0 + count_by q
        (entries_of es))
        → count_by q (entries_of (match_ordering r ((grain, entry) ∷ e ∷ es) ((e.0, entry) ∷ es)
        (e ∷ insert_entry grain_cmp es grain entry)))
        ≡ cond (q entry) 1 0 + count_by q (e.1 ∷ entries_of es)
    by Less absent later = sum_by-cons (λ x. cond (q x) 1 0) entry (e.1 ∷ entries_of es)
    by Equal absent later = absurd (let no : Some e.1 ≡ None = absent in cc)
    by Greater absent later =
        let behind = later absent in
        let put = sum_by-cons (λ x. cond (q x) 1 0) e.1 (entries_of (insert_entry grain_cmp es grain entry)) in
        let before = sum_by-cons (λ x. cond (q x) 1 0) e.1 (entries_of es) in
        omega (arith, behind, put, before)

each_counted : (hashing : Hashing) (q : Grain → Bool) (es : Hashed) → AreHashed hashing es
    → count_by (λ e. q e.grain) (entries_of (by_grain es)) ≡ count_by (λ e. q e.0.grain) es
each_counted hashing q [] are = refl
each_counted hashing q (e ∷ es) are =
    counted_inserted (λ x. q x.grain) e.0.grain (entry_under e) (by_grain es) (none_behind hashing e es are)
    ∙ ap (λ n. cond (q e.0.grain) 1 0 + n) (each_counted hashing q es (are_behind hashing e es are))
    ∙ sym (sum_by-cons (λ (x : HashedGrain × ActivationId). cond (q x.0.grain) 1 0) e es)

-- as many pass in the order of hashes as in that of grains
pub passing_by_grain : (hashing : Hashing) (q : Grain → Bool) (es : Hashed) → AreHashed hashing es
    → length (filter (λ e. q e.0.grain) es) ≡ length (filter (λ e. q e.grain) (entries_of (by_grain es)))
passing_by_grain hashing q es are =
    length-filter (λ (e : HashedGrain × ActivationId). q e.0.grain) es ∙ sym (each_counted hashing q es are)
    ∙ sym (length-filter (λ (e : Entry). q e.grain) (entries_of (by_grain es)))
