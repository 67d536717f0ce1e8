-- Entries in the order of their grains are a table's.
use Rattle.std.proofs.Common.{◌≡◌, refl, ap, true, List, [], ◌∷◌}
use Rattle.std.specs.List.{AllByRecursion}
use Rattle.std.specs.List.Sorted.{IsStrictlySortedBy}
use Rattle.std.specs.Map.{keys_of}
use Rattle.std.specs.Ordering.{is_lt}
use Rattle.std.specs.declared.cmp.Ordering.{Ordering}
use Rattle.std.specs.declared.cmp.Ordering.TheVariants.{Less, Equal, Greater}
use Rattle.std.proofs.lemmas.Bool.{and_parts}
use Rattle.texts.proofs.Entries.{all_above}
use Rattle.silo_address.specs.Grain.{grain_cmp}
use Rattle.silo_address.specs.declared.Entry.{Entry}
use Rattle.silo_address.proofs.Order.{grain_cmp_total}
use Rattle.directory_rules.specs.Table.{entries_of, is_before_first, rise_by_grain, table_of}

less_is : (r : Ordering) → is_lt r ≡ true → r ≡ Less
less_is Less is = refl
less_is Equal is = absurd (cc (is))
less_is Greater is = absurd (cc (is))

pub rising_sorted : (entries : List Entry) → rise_by_grain entries ≡ true → IsStrictlySortedBy grain_cmp (keys_of (table_of entries))
unfolding IsStrictlySortedBy
rising_sorted [] rise = tt
rising_sorted (entry ∷ entries) rise =
    let so = and_parts (is_before_first entry entries) (rise_by_grain entries) rise in
    let later = rising_sorted entries so.1 in
    (from entries so.0 later, later)
  where
    from : (rest : List Entry) → is_before_first entry rest ≡ true → IsStrictlySortedBy grain_cmp (keys_of (table_of rest))
        → AllByRecursion (λ y. grain_cmp entry.grain y ≡ Less) (keys_of (table_of rest))
    from [] before sorted = tt
    from (next ∷ rest) before sorted =
        let less = less_is (grain_cmp entry.grain next.grain) before in
        (less, all_above grain_cmp_total entry.grain next.grain (table_of rest) less sorted.0)

-- each entry stands under its own grain
pub under_grains : (entries : List Entry) → AllByRecursion (λ e. e.1.grain ≡ e.0) (table_of entries)
under_grains [] = tt
under_grains (entry ∷ entries) = (refl, under_grains entries)

-- and the table has just these
pub entries_again : (entries : List Entry) → entries_of (table_of entries) ≡ entries
entries_again [] = refl
entries_again (entry ∷ entries) = ap (λ l. entry ∷ l) (entries_again entries)
