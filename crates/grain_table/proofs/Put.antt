-- Entries put into a table one after another: what is found then, whatever the order in which they come.
use Rattle.std.proofs.Common.{◌≡◌, refl, sym, ap, ◌∙◌, subst, List, [], ◌∷◌}
use Rattle.std.specs.Prelude.{Bool, true, false, cond, Option, Some, None, fold, map}
use Rattle.std.specs.Option.{option_or}
use Rattle.std.specs.List.{AllByRecursion}
use Rattle.std.specs.Map.{keys_of}
use Rattle.std.specs.BTreeMap.{is_at}
use Rattle.std.specs.Ordering.{is_eq}
use Rattle.std.proofs.lemmas.Cmp.{eq_by_cmp_equiv, tied_itself}
use Rattle.std.proofs.lemmas.Map.{lookup-none}
use Rattle.std.proofs.lemmas.Map.Entries.{none_past_head}
use Rattle.std.proofs.lemmas.Map.Keys.{sorted_tail, IsDistinct-from_sorted}
use Rattle.texts.proofs.Orderings.{Equal-from}
use Rattle.silo_address.specs.Grain.{Grain, grain_cmp}
use Rattle.silo_address.specs.declared.Entry.{Entry}
use Rattle.silo_address.proofs.Order.{grain_cmp_total, grain_cmp_exact}
use Rattle.texts.proofs.Entries.{lookup-insert_entry}
use Rattle.hash_ring.specs.declared.Hashing.{Hashing}
use Rattle.directory_rules.specs.State.{Table}
use Rattle.directory_rules.specs.Table.{entries_of, entry_at, table_of, with_entry}
use Rattle.grain_table.specs.Hashed.{AreHashed, Hashed, by_grain, entry_under}
use Rattle.grain_table.proofs.ByGrain.{IsTable, by_grain_is_table, nothing_is_table, same_tables, with_entry_is_table}
use Rattle.grain_table.proofs.Count.{are_behind, none_behind}

-- each grain comes once
abbrev pub IsOnce : List Entry → Type 0
IsOnce [] = Unit
IsOnce (entry ∷ entries) = (entry_at entry.grain (table_of entries) ≡ None) × IsOnce entries

abbrev pub put_in : Table → List Entry → Table
put_in table entries = fold with_entry table entries

-- of each grain that comes the entry that comes is found, and of each other grain what was there
pub found_put : (grain : Grain) (table : Table) (entries : List Entry) → IsOnce entries
    → entry_at grain (put_in table entries) ≡ option_or (entry_at grain (table_of entries)) (entry_at grain table)
found_put grain table [] once = refl
found_put grain table (entry ∷ entries) once =
    found_put grain (with_entry table entry) entries once.1
    ∙ ap (option_or (entry_at grain (table_of entries))) (lookup-insert_entry grain_cmp_total entry.grain entry grain table)
    ∙ by (is_at (grain_cmp grain) entry.grain) refl
  where
    by : (b : Bool) → is_at (grain_cmp grain) entry.grain ≡ b
        → option_or (entry_at grain (table_of entries)) (cond b (Some entry) (entry_at grain table))
        ≡ option_or (cond b (Some entry) (entry_at grain (table_of entries))) (entry_at grain table)
    by true at =
        ap (λ o. option_or o (Some entry))
        (subst (λ g. entry_at g (table_of entries) ≡ None)
        (sym (grain_cmp_exact grain entry.grain (Equal-from (grain_cmp grain entry.grain) at))) once.0)
    by false at = refl

pub put_in_is_table : (table : Table) (entries : List Entry) → IsTable table → IsTable (put_in table entries)
put_in_is_table table [] is = is
put_in_is_table table (entry ∷ entries) is = put_in_is_table (with_entry table entry) entries (with_entry_is_table table entry is)

-- ---- What stands in a table comes once.
pub table_again : (table : Table) → IsTable table → table_of (entries_of table) ≡ table
table_again table is = again table is.under
  where
    again : (es : Table) → AllByRecursion (λ e. e.1.grain ≡ e.0) es → table_of (entries_of es) ≡ es
    again [] all = refl
    again (e ∷ es) all = λ i. (all.0 i, e.1) ∷ again es all.1 i

pub table_tail : (e : Grain × Entry) (table : Table) → IsTable (e ∷ table) → IsTable table
table_tail e table is = record { in_order = sorted_tail grain_cmp e.0 (keys_of table) is.in_order; under = is.under.1 }

pub table_once : (table : Table) → IsTable table → IsOnce (entries_of table)
table_once [] is = tt
table_once (e ∷ es) is = (
  ap (entry_at e.1.grain) (table_again es (table_tail e es is))
      ∙ ap (λ g. entry_at g es) is.under.0
      ∙ lookup-none (is_at (grain_cmp e.0)) es
      (none_past_head (eq_by_cmp_equiv grain_cmp_total) e.0 e es (IsDistinct-from_sorted grain_cmp (keys_of (e ∷ es)) is.in_order)
      (ap is_eq (tied_itself grain_cmp_total e.0))),
  table_once es (table_tail e es is),
)

pub found_all : (grain : Grain) (table other : Table) → IsTable other
    → entry_at grain (put_in table (entries_of other)) ≡ option_or (entry_at grain other) (entry_at grain table)
found_all grain table other is =
    found_put grain table (entries_of other) (table_once other is)
    ∙ ap (λ t. option_or (entry_at grain t) (entry_at grain table)) (table_again other is)

-- ---- What stands under hashed grains comes once.
abbrev pub entries_under : Hashed → List Entry
entries_under es = map entry_under es

pub found_under : (grain : Grain) (es : Hashed) → entry_at grain (table_of (entries_under es)) ≡ entry_at grain (by_grain es)
found_under grain [] = refl
found_under grain (e ∷ es) =
    ap (λ o. cond (is_at (grain_cmp grain) e.0.grain) (Some (entry_under e)) o) (found_under grain es)
    ∙ sym (lookup-insert_entry grain_cmp_total e.0.grain (entry_under e) grain (by_grain es))

pub hashed_once : (hashing : Hashing) (es : Hashed) → AreHashed hashing es → IsOnce (entries_under es)
hashed_once hashing [] are = tt
hashed_once hashing (e ∷ es) are =
    (found_under e.0.grain es ∙ none_behind hashing e es are, hashed_once hashing es (are_behind hashing e es are))

pub found_hashed : (hashing : Hashing) (grain : Grain) (table : Table) (es : Hashed) → AreHashed hashing es
    → entry_at grain (put_in table (entries_under es)) ≡ option_or (entry_at grain (by_grain es)) (entry_at grain table)
found_hashed hashing grain table es are =
    found_put grain table (entries_under es) (hashed_once hashing es are)
    ∙ ap (λ o. option_or o (entry_at grain table)) (found_under grain es)

-- it is the same to put them in by hash and by grain
pub put_by_hash : (hashing : Hashing) (table : Table) (es : Hashed) → IsTable table → AreHashed hashing es
    → put_in table (entries_under es) ≡ put_in table (entries_of (by_grain es))
put_by_hash hashing table es is are =
    same_tables (put_in table (entries_under es)) (put_in table (entries_of (by_grain es))) (put_in_is_table table (entries_under es) is)
    (put_in_is_table table (entries_of (by_grain es)) is)
    (λ grain. found_hashed hashing grain table es are ∙ sym (found_all grain table (by_grain es) (by_grain_is_table es)))

-- and a table put into nothing is that table
pub put_in_nothing : (table : Table) → IsTable table → put_in [] (entries_of table) ≡ table
put_in_nothing table is =
    same_tables (put_in [] (entries_of table)) table (put_in_is_table [] (entries_of table) nothing_is_table) is
    (λ grain. found_all grain [] table is ∙ with_none (entry_at grain table))
  where
    with_none : (o : Option Entry) → option_or o None ≡ o
    with_none None = refl
    with_none (Some entry) = refl
