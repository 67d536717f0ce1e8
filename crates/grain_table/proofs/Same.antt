-- Two tables have the same entries exactly where each has all of the other's.
use Rattle.std.proofs.Common.{◌≡◌, refl, sym, ap, ◌∙◌, [], ◌∷◌}
use Rattle.std.specs.Prelude.{Bool, true, false, cond, Option, Some, None}
use Rattle.std.specs.List.{AllByRecursion}
use Rattle.std.specs.BTreeMap.{is_at}
use Rattle.std.specs.Ordering.{is_eq}
use Rattle.std.proofs.lemmas.Cmp.{tied_itself}
use Rattle.texts.proofs.Orderings.{Equal-from}
use Rattle.silo_address.specs.Grain.{Grain, grain_cmp}
use Rattle.silo_address.specs.declared.ActivationId.{ActivationId}
use Rattle.silo_address.specs.declared.Entry.{Entry}
use Rattle.silo_address.proofs.Order.{grain_cmp_total, grain_cmp_exact}
use Rattle.texts.proofs.Entries.{lookup-insert_entry}
use Rattle.hash_ring.specs.declared.Hashing.{Hashing}
use Rattle.directory_rules.specs.State.{Table}
use Rattle.directory_rules.specs.Table.{entry_at}
use Rattle.grain_table.specs.declared.hashed_grain.HashedGrain.{HashedGrain}
use Rattle.grain_table.specs.Hashed.{AreHashed, Hashed, by_grain, entry_under}
use Rattle.grain_table.proofs.Count.{are_behind, none_behind}
use Rattle.grain_table.proofs.ByGrain.{by_grain_is_table, same_tables}

-- a table has each entry of a map
abbrev pub HasAll : Table → Hashed → Type 0
HasAll table es = AllByRecursion (λ e. entry_at e.0.grain table ≡ Some (entry_under e)) es

found_there : (table : Table) (es : Hashed) → HasAll table es → (grain : Grain) (entry : Entry) → entry_at grain (by_grain es) ≡ Some entry
    → entry_at grain table ≡ Some entry
found_there table [] all grain entry is = cc
found_there table (e ∷ es) all grain entry is =
    by (is_at (grain_cmp grain) e.0.grain) refl (sym (lookup-insert_entry grain_cmp_total e.0.grain (entry_under e) grain (by_grain es))
    ∙ is)
    (found_there table es all.1 grain entry)
  where
    by : (b : Bool) → is_at (grain_cmp grain) e.0.grain ≡ b → cond b (Some (entry_under e)) (entry_at grain (by_grain es)) ≡ Some entry
        → (entry_at grain (by_grain es) ≡ Some entry → entry_at grain table ≡ Some entry) → entry_at grain table ≡ Some entry
    by true at is later =
        ap (λ g. entry_at g table) (grain_cmp_exact grain e.0.grain (Equal-from (grain_cmp grain e.0.grain) at)) ∙ all.0 ∙ is
    by false at is later = later is

pub same_found : (one other : Option Entry) → ((entry : Entry) → one ≡ Some entry → other ≡ Some entry)
    → ((entry : Entry) → other ≡ Some entry → one ≡ Some entry) → one ≡ other
same_found None None there back = refl
same_found None (Some entry) there back = back entry refl
same_found (Some entry) other there back = sym (there entry refl)

pub same_from : (es fs : Hashed) → HasAll (by_grain fs) es → HasAll (by_grain es) fs → by_grain es ≡ by_grain fs
same_from es fs there back =
    same_tables (by_grain es) (by_grain fs) (by_grain_is_table es) (by_grain_is_table fs)
    (λ grain. same_found (entry_at grain (by_grain es)) (entry_at grain (by_grain fs)) (found_there (by_grain fs) es there grain)
    (found_there (by_grain es) fs back grain))

-- a table has what stands in it
pub has_own : (hashing : Hashing) (es : Hashed) → AreHashed hashing es → HasAll (by_grain es) es
has_own hashing [] are = tt
has_own hashing (e ∷ es) are = (
  lookup-insert_entry grain_cmp_total e.0.grain (entry_under e) e.0.grain (by_grain es)
      ∙ ap (λ b. cond b (Some (entry_under e)) (entry_at e.0.grain (by_grain es))) (ap is_eq (tied_itself grain_cmp_total e.0.grain)),
  each es (has_own hashing es (are_behind hashing e es are)),
)
  where
    still : (f : HashedGrain × ActivationId) → entry_at f.0.grain (by_grain es) ≡ Some (entry_under f)
        → entry_at f.0.grain (by_grain (e ∷ es)) ≡ Some (entry_under f)
    still f is =
        lookup-insert_entry grain_cmp_total e.0.grain (entry_under e) f.0.grain (by_grain es)
        ∙ by (is_at (grain_cmp f.0.grain) e.0.grain) refl
      where
        by : (b : Bool) → is_at (grain_cmp f.0.grain) e.0.grain ≡ b
            → cond b (Some (entry_under e)) (entry_at f.0.grain (by_grain es)) ≡ Some (entry_under f)
        by true at =
            let none : entry_at f.0.grain (by_grain es) ≡ None =
            ap (λ g. entry_at g (by_grain es)) (grain_cmp_exact f.0.grain e.0.grain (Equal-from (grain_cmp f.0.grain e.0.grain) at))
            ∙ none_behind hashing e es are in
            let no : None ≡ Some (entry_under f) = sym none ∙ is in cc
        by false at = is

    each : (fs : Hashed) → HasAll (by_grain es) fs → HasAll (by_grain (e ∷ es)) fs
    each [] all = tt
    each (f ∷ fs) all = (still f all.0, each fs all.1)
