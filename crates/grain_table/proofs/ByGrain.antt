-- A table in the order of its grains has what it has in the order of hashes: what is found and put in.
use Rattle.std.proofs.Common.{◌≡◌, refl, sym, ap, ◌∙◌, subst, List, [], ◌∷◌}
use Rattle.std.specs.Prelude.{Bool, true, false, cond, Option, Some}
use Rattle.std.specs.Option.{option_map}
use Rattle.std.specs.List.{AllByRecursion}
use Rattle.std.specs.List.Sorted.{IsStrictlySortedBy}
use Rattle.std.specs.Map.{lookup, keys_of}
use Rattle.std.specs.BTreeMap.{is_at, insert_entry}
use Rattle.std.specs.Ordering.{match_ordering}
use Rattle.std.specs.declared.cmp.Ordering.{Ordering}
use Rattle.std.specs.declared.cmp.Ordering.TheVariants.{Less, Equal, Greater}
use Rattle.texts.proofs.Orderings.{Equal-from}
use Rattle.silo_address.specs.Grain.{Grain, grain_cmp}
use Rattle.silo_address.specs.declared.ActivationId.{ActivationId}
use Rattle.silo_address.specs.declared.Entry.{Entry}
use Rattle.silo_address.proofs.Order.{grain_cmp_total, grain_cmp_exact}
use Rattle.texts.proofs.Entries.{lookup-insert_entry, sorted-insert_entry, sorted-nil}
use Rattle.membership_view.proofs.Found.{same_entries}
use Rattle.hash_ring.specs.declared.Hashing.{Hashing}
use Rattle.directory_rules.specs.State.{Table}
use Rattle.directory_rules.specs.Table.{entry_at, with_entry}
use Rattle.grain_table.specs.declared.hashed_grain.HashedGrain.{HashedGrain}
use Rattle.grain_table.specs.Hashed.{AreHashed, Hashed, IsKeyOf, by_grain, entry_under, hashed_cmp, key_of}
use Rattle.grain_table.proofs.Order.{at_key, hashed_cmp_total, key_is}

-- ---- The rule's tables.

-- the entries stand in the order of their grains, each under its grain
pub record IsTable (table : Table) : Type 0 where
  pub in_order : IsStrictlySortedBy grain_cmp (keys_of table)
  pub under : AllByRecursion (λ e. e.1.grain ≡ e.0) table

pub nothing_is_table : IsTable []
nothing_is_table = record { in_order = sorted-nil grain_cmp; under = tt }

pub all_insert : {K X : Type 0} (R : K → K → Ordering) (P : K × X → Type 0) → ((a b : K) → R a b ≡ Equal → a ≡ b)
    → (k : K) (v : X) (es : List (K × X)) → P (k, v)
    → AllByRecursion P es → AllByRecursion P (insert_entry R es k v)
all_insert R P exact k v [] here all = (here, tt)
all_insert {K} {X} R P exact k v (e ∷ es) here all = by (R k e.0) refl (all_insert R P exact k v es here all.1)
  where
    by : (r : Ordering) → R k e.0 ≡ r → AllByRecursion P (insert_entry R es k v)
        → AllByRecursion P (match_ordering r ((k, v) ∷ e ∷ es) ((e.0, v) ∷ es) (e ∷ insert_entry R es k v))
    by Less is rest = (here, all)
    by Equal is rest = (subst (λ (j : K). P (j, v)) (exact k e.0 is) here, all.1)
    by Greater is rest = (all.0, rest)

pub with_entry_is_table : (table : Table) (entry : Entry) → IsTable table → IsTable (with_entry table entry)
with_entry_is_table table entry is = record {
  in_order = sorted-insert_entry grain_cmp_total entry.grain entry table is.in_order;
  under = all_insert grain_cmp (λ e. e.1.grain ≡ e.0) grain_cmp_exact entry.grain entry table refl is.under;
}

pub by_grain_is_table : (es : Hashed) → IsTable (by_grain es)
by_grain_is_table [] = nothing_is_table
by_grain_is_table (e ∷ es) = with_entry_is_table (by_grain es) (entry_under e) (by_grain_is_table es)

-- two tables in which the same is found are one
pub same_tables : (one other : Table) → IsTable one → IsTable other → ((grain : Grain) → entry_at grain one ≡ entry_at grain other)
    → one ≡ other
same_tables one other is too same = same_entries grain_cmp_total grain_cmp_exact one other is.in_order too.in_order same

-- ---- What is found.
abbrev pub entry_of : Grain → ActivationId → Entry
entry_of grain activation = record { grain = grain; activation = activation }

abbrev pub found : Hashing → Grain → Hashed → Option Entry
found hashing grain es = option_map (entry_of grain) (lookup (is_at (hashed_cmp (key_of hashing grain))) es)

pub found_by_grain : (hashing : Hashing) (es : Hashed) → AllByRecursion (IsKeyOf hashing) (keys_of es) → (grain : Grain)
    → entry_at grain (by_grain es) ≡ found hashing grain es
found_by_grain hashing [] keys grain = refl
found_by_grain hashing (e ∷ es) keys grain =
    lookup-insert_entry grain_cmp_total e.0.grain (entry_under e) grain (by_grain es)
    ∙ ap (λ o. cond (is_at (grain_cmp grain) e.0.grain) (Some (entry_under e)) o) (found_by_grain hashing es keys.1 grain)
    ∙ by (is_at (grain_cmp grain) e.0.grain) refl
    ∙ ap (λ b. option_map (entry_of grain) (cond b (Some e.1) (lookup (is_at (hashed_cmp (key_of hashing grain))) es)))
    (sym (at_key hashing grain e.0 keys.0.hash_is))
  where
    by : (b : Bool) → is_at (grain_cmp grain) e.0.grain ≡ b → cond b (Some (entry_under e)) (found hashing grain es)
        ≡ option_map (entry_of grain) (cond b (Some e.1) (lookup (is_at (hashed_cmp (key_of hashing grain))) es))
    by true at = ap (λ g. Some (entry_of g e.1)) (sym (grain_cmp_exact grain e.0.grain (Equal-from (grain_cmp grain e.0.grain) at)))
    by false at = refl

-- under a key that is its grain's
pub found_at : (hashing : Hashing) (key : HashedGrain) (es : Hashed) → IsKeyOf hashing key → AllByRecursion (IsKeyOf hashing) (keys_of es)
    → option_map (entry_of key.grain) (lookup (is_at (hashed_cmp key)) es) ≡ entry_at key.grain (by_grain es)
found_at hashing key es is keys =
    ap (λ k. option_map (entry_of key.grain) (lookup (is_at (hashed_cmp k)) es)) (key_is hashing key is)
    ∙ sym (found_by_grain hashing es keys key.grain)

-- ---- What is put in.
all_keys_insert : (P : HashedGrain → Type 0) (key : HashedGrain) (activation : ActivationId) (es : Hashed) → P key
    → AllByRecursion P (keys_of es)
    → AllByRecursion P (keys_of (insert_entry hashed_cmp es key activation))
all_keys_insert P key activation [] here all = (here, tt)
all_keys_insert P key activation (e ∷ es) here all = by (hashed_cmp key e.0) (all_keys_insert P key activation es here all.1)
  where
    by : (r : Ordering) → AllByRecursion P (keys_of (insert_entry hashed_cmp es key activation))
        → AllByRecursion P (keys_of (match_ordering r ((key, activation) ∷ e ∷ es) ((e.0, activation) ∷ es)
        (e ∷ insert_entry hashed_cmp es key activation)))
    by Less rest = (here, all)
    by Equal rest = all
    by Greater rest = (all.0, rest)

pub hashed_put : (hashing : Hashing) (key : HashedGrain) (activation : ActivationId) (es : Hashed) → IsKeyOf hashing key
    → AreHashed hashing es
    → AreHashed hashing (insert_entry hashed_cmp es key activation)
hashed_put hashing key activation es is are = record {
  in_order = sorted-insert_entry hashed_cmp_total key activation es are.in_order;
  keys = all_keys_insert (IsKeyOf hashing) key activation es is are.keys;
}

pub put_by_grain : (hashing : Hashing) (key : HashedGrain) (activation : ActivationId) (es : Hashed) → IsKeyOf hashing key
    → AreHashed hashing es
    → by_grain (insert_entry hashed_cmp es key activation) ≡ with_entry (by_grain es) (entry_of key.grain activation)
put_by_grain hashing key activation es is are =
    same_tables (by_grain new) (with_entry (by_grain es) (entry_of key.grain activation)) (by_grain_is_table new)
    (with_entry_is_table (by_grain es) (entry_of key.grain activation) (by_grain_is_table es))
    (λ grain.
    found_by_grain hashing new (hashed_put hashing key activation es is are).keys grain
    ∙ ap (option_map (entry_of grain)) (lookup-insert_entry hashed_cmp_total key activation (key_of hashing grain) es)
    ∙ ap (λ b. option_map (entry_of grain) (cond b (Some activation) (lookup (is_at (hashed_cmp (key_of hashing grain))) es)))
    (at_key hashing grain key is.hash_is)
    ∙ by grain (is_at (grain_cmp grain) key.grain) refl
    ∙ ap (λ o. cond (is_at (grain_cmp grain) key.grain) (Some (entry_of key.grain activation)) o)
    (sym (found_by_grain hashing es are.keys grain))
    ∙ sym (lookup-insert_entry grain_cmp_total key.grain (entry_of key.grain activation) grain (by_grain es)))
  where
    new : Hashed
    new = insert_entry hashed_cmp es key activation

    by : (grain : Grain) (b : Bool) → is_at (grain_cmp grain) key.grain ≡ b
        → option_map (entry_of grain) (cond b (Some activation) (lookup (is_at (hashed_cmp (key_of hashing grain))) es))
        ≡ cond b (Some (entry_of key.grain activation)) (found hashing grain es)
    by grain true at = ap (λ g. Some (entry_of g activation)) (grain_cmp_exact grain key.grain (Equal-from (grain_cmp grain key.grain) at))
    by grain false at = refl
