-- A table: entries under their grains, in the order of the grains. A table is what a silo has of a piece.
use Rattle.std.specs.Prelude.{◌&&◌, Bool, true, Option, List, [], ◌∷◌, map}
use Rattle.std.specs.List.{list_all}
use Rattle.std.specs.Ordering.{is_lt}
use Rattle.std.specs.Map.{lookup, values_of, remove_entry}
use Rattle.std.specs.BTreeMap.{is_at, insert_entry}
use Rattle.silo_address.specs.Grain.{Grain, grain_cmp}
use Rattle.silo_address.specs.declared.Entry.{Entry}
use Rattle.ring_range.specs.Range.{Range, holds}
use Rattle.hash_ring.specs.declared.Hashing.{Hashing}
use Rattle.hash_ring.specs.Hash.{hash_grain}
use Rattle.directory_rules.specs.State.{Table}

-- the grain's entry
abbrev pub entry_at : Grain → Table → Option Entry
entry_at grain table = lookup (is_at (grain_cmp grain)) table

-- with the entry, in place of one of its grain
abbrev pub with_entry : Table → Entry → Table
with_entry table entry = insert_entry grain_cmp table entry.grain entry

-- without the grain's entry
abbrev pub without_grain : Grain → Table → Table
without_grain grain table = remove_entry (is_at (grain_cmp grain)) table

-- the entries, in the order of their grains
abbrev pub entries_of : Table → List Entry
entries_of table = values_of table

-- the table of entries that stand in the order of their grains
abbrev pub table_of : List Entry → Table
table_of entries = map (λ entry. (entry.grain, entry)) entries

-- whether the entry's grain is below that of the first one
abbrev pub is_before_first : Entry → List Entry → Bool
is_before_first entry [] = true
is_before_first entry (next ∷ entries) = is_lt (grain_cmp entry.grain next.grain)

-- whether the entries stand in the order of their grains, each grain once
abbrev pub rise_by_grain : List Entry → Bool
rise_by_grain [] = true
rise_by_grain (entry ∷ entries) = is_before_first entry entries && rise_by_grain entries

-- whether the entries are all hashed into the range
abbrev pub lie_in : Hashing → Range → List Entry → Bool
lie_in hashing range entries = list_all (λ e. holds range (hash_grain hashing e.grain)) entries
