-- Tables stay in the order of their grains, and their entries in the range.
use Rattle.std.proofs.Common.{◌≡◌, refl, List, [], ◌∷◌}
use Rattle.std.specs.Prelude.{Bool, true, cond, is_some, All, Option, Some, None, filter, fold}
use Rattle.std.specs.List.{AllByRecursion, list_all}
use Rattle.std.specs.List.Sorted.{IsStrictlySortedBy}
use Rattle.std.specs.declared.cmp.Ordering.TheVariants.{Less}
use Rattle.std.specs.Map.{keys_of}
use Rattle.std.specs.BTreeMap.{is_at}
use Rattle.std.proofs.lemmas.List.Elements.{All-nil, All-cons, All-head, All-tail, All-filter, All-map}
use Rattle.texts.proofs.Decided.{both}
use Rattle.silo_address.specs.Grain.{Grain, grain_cmp}
use Rattle.silo_address.specs.Activation.{activation_eq}
use Rattle.silo_address.specs.declared.ActivationId.{ActivationId}
use Rattle.silo_address.specs.declared.Entry.{Entry}
use Rattle.silo_address.proofs.Order.{grain_cmp_total, grain_cmp_exact}
use Rattle.texts.proofs.Entries.{sorted-nil, sorted-insert_entry, sorted-remove_entry}
use Rattle.ring_range.specs.Range.{Range, holds}
use Rattle.hash_ring.specs.declared.Hashing.{Hashing}
use Rattle.hash_ring.specs.Hash.{hash_grain}
use Rattle.directory_rules.specs.declared.act.Act.{Act}
use Rattle.directory_rules.specs.declared.act.Act.TheVariants.{Register, Deregister, Find}
use Rattle.directory_rules.specs.declared.reply.Reply.{Reply}
use Rattle.directory_rules.specs.declared.reply.Reply.TheVariants.{Registered, Taken, Removed, Absent}
use Rattle.directory_rules.specs.State.{Table}
use Rattle.directory_rules.specs.Table.{entry_at, with_entry, without_grain, table_of, rise_by_grain}
use Rattle.directory_rules.specs.Answer.{Turned, turned, registered_over, deregistered_from, is_previous}
use Rattle.directory_rules.specs.Recovery.{with_reported}
use Rattle.directory_rules.specs.Host.{grain_of}
use Rattle.directory_rules.proofs.Cases.{on_bool}
use Rattle.directory_rules.proofs.RisingTables.{rising_sorted}
use Rattle.directory_facts.specs.Pieces.{IsHashedInto, IsTableOf}
use Rattle.directory_facts.proofs.Entries.{all_put, all_removed}

-- what a test says of each
pub all_from : {X : Type 0} (test : X → Bool) (xs : List X) → list_all test xs ≡ true → All (λ x. test x ≡ true) xs
all_from test [] is = All-nil (λ x. test x ≡ true)
all_from test (x ∷ xs) is = let so = both (test x) (list_all test xs) is in All-cons (λ y. test y ≡ true) x xs so.0 (all_from test xs so.1)

-- a table in the order of its grains, each entry under its own
pub record InOrder (table : Table) : Type 0 where
  pub by_grain : IsStrictlySortedBy grain_cmp (keys_of table)
  pub own_grain : All (λ e. e.0 ≡ e.1.grain) table

pub order_nil : InOrder []
order_nil = record { by_grain = sorted-nil grain_cmp; own_grain = All-nil _ }

pub order_put : (table : Table) (entry : Entry) → InOrder table → InOrder (with_entry table entry)
order_put table entry is = record {
  by_grain = sorted-insert_entry grain_cmp_total entry.grain entry table is.by_grain;
  own_grain = all_put grain_cmp grain_cmp_exact (λ e. e.0 ≡ e.1.grain) entry.grain entry table is.own_grain refl;
}

order_taken : (table : Table) (grain : Grain) → InOrder table → InOrder (without_grain grain table)
order_taken table grain is = record {
  by_grain = sorted-remove_entry (is_at (grain_cmp grain)) grain_cmp table is.by_grain;
  own_grain = all_removed (λ e. e.0 ≡ e.1.grain) (is_at (grain_cmp grain)) table is.own_grain;
}

all_filtered : {X : Type 0} (P : Grain → Type 0) (test : Grain × X → Bool) (es : List (Grain × X)) → AllByRecursion P (keys_of es)
    → AllByRecursion P (keys_of (filter test es))
all_filtered P test [] all = all
all_filtered P test (e ∷ es) all =
    on_bool (λ b. AllByRecursion P (keys_of (cond b (e ∷ filter test es) (filter test es)))) (test e)
    (λ t. (all.0, all_filtered P test es all.1)) (λ f. all_filtered P test es all.1)

sorted_filtered : {X : Type 0} (test : Grain × X → Bool) (es : List (Grain × X)) → IsStrictlySortedBy grain_cmp (keys_of es)
    → IsStrictlySortedBy grain_cmp (keys_of (filter test es))
unfolding IsStrictlySortedBy
sorted_filtered test [] sorted = sorted
sorted_filtered test (e ∷ es) sorted =
    on_bool (λ b. IsStrictlySortedBy grain_cmp (keys_of (cond b (e ∷ filter test es) (filter test es)))) (test e)
    (λ t. (all_filtered (λ y. grain_cmp e.0 y ≡ Less) test es sorted.0, sorted_filtered test es sorted.1))
    (λ f. sorted_filtered test es sorted.1)

pub order_filtered : (test : Grain × Entry → Bool) (table : Table) → InOrder table → InOrder (filter test table)
order_filtered test table is =
    record { by_grain = sorted_filtered test table is.by_grain; own_grain = All-filter test (λ e. e.0 ≡ e.1.grain) table is.own_grain }

-- ---- entries that rise make a table
pub order_rising : (entries : List Entry) → rise_by_grain entries ≡ true → InOrder (table_of entries)
order_rising entries rise =
    record {
      by_grain = rising_sorted entries rise;
      own_grain = All-map (λ e. e.0 ≡ e.1.grain) (λ (entry : Entry). (entry.grain, entry))
          entries (λ k d below. refl);
    }

-- ---- tables of ranges
pub in_range : (hashing : Hashing) (range : Range) (table : Table) → InOrder table → All (λ e. IsHashedInto hashing range e.1) table
    → IsTableOf hashing range table
in_range hashing range table is placed = record { by_grain = is.by_grain; own_grain = is.own_grain; placed = placed }

in_order : (hashing : Hashing) (range : Range) (table : Table) → IsTableOf hashing range table → InOrder table
in_order hashing range table is = record { by_grain = is.by_grain; own_grain = is.own_grain }

pub table_nil : (hashing : Hashing) (range : Range) → IsTableOf hashing range []
table_nil hashing range = in_range hashing range [] order_nil (All-nil _)

pub table_put : (hashing : Hashing) (range : Range) (table : Table) (entry : Entry) → IsTableOf hashing range table
    → IsHashedInto hashing range entry → IsTableOf hashing range (with_entry table entry)
table_put hashing range table entry is lies =
    in_range hashing range (with_entry table entry) (order_put table entry (in_order hashing range table is))
    (all_put grain_cmp grain_cmp_exact (λ e. IsHashedInto hashing range e.1) entry.grain entry table is.placed lies)

table_taken : (hashing : Hashing) (range : Range) (table : Table) (grain : Grain) → IsTableOf hashing range table
    → IsTableOf hashing range (without_grain grain table)
table_taken hashing range table grain is =
    in_range hashing range (without_grain grain table) (order_taken table grain (in_order hashing range table is))
    (all_removed (λ e. IsHashedInto hashing range e.1) (is_at (grain_cmp grain)) table is.placed)

pub table_rising : (hashing : Hashing) (range : Range) (entries : List Entry) → rise_by_grain entries ≡ true
    → All (IsHashedInto hashing range) entries → IsTableOf hashing range (table_of entries)
table_rising hashing range entries rise lie =
    in_range hashing range (table_of entries) (order_rising entries rise)
    (All-map (λ e. IsHashedInto hashing range e.1) (λ (entry : Entry). (entry.grain, entry)) entries lie)

-- reports of the range's grains
table_reported : (hashing : Hashing) (range : Range) (table : Table) (entry : Entry) → IsTableOf hashing range table
    → IsHashedInto hashing range entry → IsTableOf hashing range (with_reported table entry)
table_reported hashing range table entry is lies =
    on_bool (λ b. IsTableOf hashing range (cond b table (with_entry table entry))) (is_some (entry_at entry.grain table)) (λ t. is)
    (λ f. table_put hashing range table entry is lies)

pub table_union : (hashing : Hashing) (range : Range) (entries : List Entry) (table : Table) → IsTableOf hashing range table
    → All (IsHashedInto hashing range) entries → IsTableOf hashing range (fold with_reported table entries)
table_union hashing range [] table is lie = is
table_union hashing range (entry ∷ entries) table is lie =
    table_union hashing range entries (with_reported table entry)
    (table_reported hashing range table entry is (All-head (IsHashedInto hashing range) entry entries lie))
    (All-tail (IsHashedInto hashing range) entry entries lie)

-- ---- a table's turn
abbrev turn : Reply → Table → Turned
turn reply table = record { reply = reply; table = table }

registered_so : (hashing : Hashing) (range : Range) (there : Option Entry) (entry : Entry) (previous : Option ActivationId) (table : Table)
    → IsTableOf hashing range table → IsHashedInto hashing range entry
    → IsTableOf hashing range (registered_over there entry previous table).table
registered_so hashing range None entry previous table is lies = table_put hashing range table entry is lies
registered_so hashing range (Some there) entry previous table is lies =
    on_bool (λ b. IsTableOf hashing range (cond b (turn (Registered entry) table)
    (cond (is_previous previous there) (turn (Registered entry) (with_entry table entry)) (turn (Taken there) table))).table)
    (activation_eq there.activation entry.activation)
    (λ t. is)
    (λ f. on_bool (λ b. IsTableOf hashing range (cond b (turn (Registered entry) (with_entry table entry))
    (turn (Taken there) table)).table) (is_previous previous there) (λ t. table_put hashing range table entry is lies) (λ g. is))

deregistered_so : (hashing : Hashing) (range : Range) (there : Option Entry) (entry : Entry) (table : Table) → IsTableOf hashing range table
    → IsTableOf hashing range (deregistered_from there entry table).table
deregistered_so hashing range None entry table is = is
deregistered_so hashing range (Some there) entry table is =
    on_bool (λ b. IsTableOf hashing range (cond b (turn Removed (without_grain entry.grain table)) (turn Absent table)).table)
    (activation_eq there.activation entry.activation)
    (λ t. table_taken hashing range table entry.grain is) (λ f. is)

pub table_turned : (hashing : Hashing) (range : Range) (act : Act) (table : Table) → IsTableOf hashing range table
    → holds range (hash_grain hashing (grain_of act)) ≡ true → IsTableOf hashing range (turned act table).table
table_turned hashing range (Register entry previous) table is lies =
    registered_so hashing range (entry_at entry.grain table) entry previous table is lies
table_turned hashing range (Deregister entry) table is lies = deregistered_so hashing range (entry_at entry.grain table) entry table is
table_turned hashing range (Find grain) table is lies = is
