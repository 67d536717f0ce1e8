-- Entries in the order of their grains are a table, and put into nothing make it.
use Rattle.std.proofs.Common.{◌≡◌, sym, ap, ◌∙◌, List, []}
use Rattle.std.specs.Prelude.{true, fold}
use Rattle.silo_address.specs.declared.Entry.{Entry}
use Rattle.directory_rules.specs.Table.{rise_by_grain, table_of, with_entry}
use Rattle.directory_rules.proofs.RisingTables.{entries_again, rising_sorted, under_grains}
use Rattle.grain_table.proofs.ByGrain.{IsTable}
use Rattle.grain_table.proofs.Put.{put_in_nothing}

rising_is_table : (entries : List Entry) → rise_by_grain entries ≡ true → IsTable (table_of entries)
rising_is_table entries rises = record { in_order = rising_sorted entries rises; under = under_grains entries }

-- entries that rise, put into nothing, are the table of them
pub rising_put : (entries : List Entry) → rise_by_grain entries ≡ true → fold with_entry [] entries ≡ table_of entries
rising_put entries rises =
    ap (λ l. fold with_entry [] l) (sym (entries_again entries)) ∙ put_in_nothing (table_of entries) (rising_is_table entries rises)
