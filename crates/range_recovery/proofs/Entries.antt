-- Entries that are put into a table and taken out again.
use Rattle.std.proofs.Common.{◌≡◌, List, [], ◌∷◌, ◌++◌, Bool, true, false, Option, Some, None, refl, sym, ◌∙◌, ap}
use Rattle.std.specs.Prelude.{is_none, is_some, if◌then◌else◌}
use Rattle.texts.proofs.Entries.{remove-insert_entry}
use Rattle.silo_address.specs.Grain.{Grain}
use Rattle.silo_address.specs.declared.Entry.{Entry}
use Rattle.silo_address.proofs.Order.{grain_cmp_total}
use Rattle.directory_rules.specs.Recovery.{with_reported}
use Rattle.directory_rules.specs.State.{Table}
use Rattle.directory_rules.specs.Table.{entry_at, with_entry, without_grain}
use Rattle.range_recovery.specs.Gathered.{without_grains}

-- one grain more is taken out before the others
pub without_grains-push : (grains : List Grain) (grain : Grain) (table : Table)
    → without_grains (grains ++ grain ∷ []) table ≡ without_grains grains (without_grain grain table)
without_grains-push [] grain table = refl
without_grains-push (first ∷ grains) grain table = ap (λ t. without_grain first t) (without_grains-push grains grain table)

-- ---- An entry that is put in where its grain has none.
by_there : (there : Option Entry) (is_new : Bool) → is_new ≡ is_none there
    → (is_new ≡ true → there ≡ None) × (is_new ≡ false → is_some there ≡ true)
by_there None is_new is = (λ new. refl, λ old. let no : true ≡ false = sym is ∙ old in cc)
by_there (Some entry) is_new is = (λ new. let no : false ≡ true = sym is ∙ new in cc, λ old. refl)

-- one that was new is taken out again
pub new_taken : (table : Table) (entry : Entry) (is_new : Bool) → is_new ≡ is_none (entry_at entry.grain table) → is_new ≡ true
    → without_grain entry.grain (with_reported table entry) ≡ table
new_taken table entry is_new is new =
    let absent = (by_there (entry_at entry.grain table) is_new is).0 new in
    ap (λ o. without_grain entry.grain (if is_some o then table else with_entry table entry)) absent
    ∙ remove-insert_entry grain_cmp_total entry.grain entry table absent

-- one that wasn't changed nothing
pub old_stays : (table : Table) (entry : Entry) (is_new : Bool) → is_new ≡ is_none (entry_at entry.grain table) → is_new ≡ false
    → with_reported table entry ≡ table
old_stays table entry is_new is old =
    ap (λ b. if b then table else with_entry table entry) ((by_there (entry_at entry.grain table) is_new is).1 old)
