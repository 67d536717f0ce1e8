-- What a table has once a grain is taken out.
use Rattle.std.proofs.Common.{◌≡◌, refl, sym, ap, ◌∙◌, List, [], ◌∷◌}
use Rattle.std.specs.Prelude.{Bool, true, false, cond, None}
use Rattle.std.specs.Cmp.{IsTotalOrder}
use Rattle.std.specs.Option.{option_map}
use Rattle.std.specs.List.{AllByRecursion}
use Rattle.std.specs.List.Sorted.{IsStrictlySortedBy}
use Rattle.std.specs.Map.{lookup, keys_of, remove_entry}
use Rattle.std.specs.BTreeMap.{is_at}
use Rattle.std.specs.declared.cmp.Ordering.{Ordering}
use Rattle.std.proofs.lemmas.Cmp.{eq_by_cmp_equiv}
use Rattle.std.proofs.lemmas.Map.{lookup-remove_entry}
use Rattle.std.proofs.lemmas.Map.Keys.{IsDistinct-from_sorted}
use Rattle.texts.proofs.Entries.{all-remove_entry, sorted-remove_entry}
use Rattle.silo_address.specs.Grain.{Grain, grain_cmp}
use Rattle.silo_address.proofs.Order.{grain_cmp_total}
use Rattle.hash_ring.specs.declared.Hashing.{Hashing}
use Rattle.directory_rules.specs.State.{Table}
use Rattle.directory_rules.specs.Table.{without_grain}
use Rattle.grain_table.specs.declared.hashed_grain.HashedGrain.{HashedGrain}
use Rattle.grain_table.specs.Hashed.{AreHashed, Hashed, IsKeyOf, by_grain, hashed_cmp, key_of}
use Rattle.grain_table.proofs.Order.{at_key, hashed_cmp_total, key_is}
use Rattle.grain_table.proofs.ByGrain.{IsTable, by_grain_is_table, entry_of, found, found_by_grain, same_tables}

module _ {K X : Type 0} (test : K → Bool) where
  pub all_without : (P : K × X → Type 0) (es : List (K × X)) → AllByRecursion P es → AllByRecursion P (remove_entry test es)
  all_without P [] all = tt
  all_without P (e ∷ es) all = by (test e.0) (all_without P es all.1)
    where
      by : (b : Bool) → AllByRecursion P (remove_entry test es) → AllByRecursion P (cond b es (e ∷ remove_entry test es))
      by true rest = all.1
      by false rest = (all.0, rest)

-- what is found once a key is taken out
found_without : {K X : Type 0} {R : K → K → Ordering} (o : IsTotalOrder R) (k q : K) (es : List (K × X)) → IsStrictlySortedBy R (keys_of es)
    → lookup (is_at (R q)) (remove_entry (is_at (R k)) es) ≡ cond (is_at (R k) q) None (lookup (is_at (R q)) es)
found_without {R = R} o k q es s = lookup-remove_entry (eq_by_cmp_equiv o) (is_at (R k)) ((eq_by_cmp_equiv o).congr k) q es
    (IsDistinct-from_sorted R (keys_of es) s)

pub without_is_table : (grain : Grain) (table : Table) → IsTable table → IsTable (without_grain grain table)
without_is_table grain table is = record {
  in_order = sorted-remove_entry (is_at (grain_cmp grain)) grain_cmp table is.in_order;
  under = all_without (is_at (grain_cmp grain)) (λ e. e.1.grain ≡ e.0) table is.under;
}

pub hashed_taken : (hashing : Hashing) (test : HashedGrain → Bool) (es : Hashed) → AreHashed hashing es
    → AreHashed hashing (remove_entry test es)
hashed_taken hashing test es are = record {
  in_order = sorted-remove_entry test hashed_cmp es are.in_order;
  keys = all-remove_entry test (IsKeyOf hashing) es are.keys;
}

pub taken_by_grain : (hashing : Hashing) (grain : Grain) (es : Hashed) → AreHashed hashing es
    → by_grain (remove_entry (is_at (hashed_cmp (key_of hashing grain))) es) ≡ without_grain grain (by_grain es)
taken_by_grain hashing grain es are =
    same_tables (by_grain left) (without_grain grain (by_grain es)) (by_grain_is_table left)
    (without_is_table grain (by_grain es) (by_grain_is_table es))
    (λ other.
    found_by_grain hashing left (hashed_taken hashing (is_at (hashed_cmp (key_of hashing grain))) es are).keys other
    ∙ ap (option_map (entry_of other)) (found_without hashed_cmp_total (key_of hashing grain) (key_of hashing other) es are.in_order)
    ∙ ap (λ b. option_map (entry_of other) (cond b None (lookup (is_at (hashed_cmp (key_of hashing other))) es)))
    (at_key hashing grain (key_of hashing other) refl)
    ∙ by other (is_at (grain_cmp grain) other)
    ∙ ap (λ o. cond (is_at (grain_cmp grain) other) None o) (sym (found_by_grain hashing es are.keys other))
    ∙ sym (found_without grain_cmp_total grain other (by_grain es) (by_grain_is_table es).in_order))
  where
    left : Hashed
    left = remove_entry (is_at (hashed_cmp (key_of hashing grain))) es

    by : (other : Grain) (b : Bool) → option_map (entry_of other) (cond b None (lookup (is_at (hashed_cmp (key_of hashing other))) es))
        ≡ cond b None (found hashing other es)
    by other true = refl
    by other false = refl

-- under a key that is its grain's
pub taken_at : (hashing : Hashing) (key : HashedGrain) (es : Hashed) → IsKeyOf hashing key → AreHashed hashing es
    → by_grain (remove_entry (is_at (hashed_cmp key)) es) ≡ without_grain key.grain (by_grain es)
taken_at hashing key es is are =
    ap (λ k. by_grain (remove_entry (is_at (hashed_cmp k)) es)) (key_is hashing key is) ∙ taken_by_grain hashing key.grain es are
