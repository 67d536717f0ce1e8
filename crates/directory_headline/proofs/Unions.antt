-- What is found in a table after the entries of a report were taken into it: the ones that were there, or else the report's.
use Rattle.std.proofs.Common.{◌≡◌, ◌⊎◌, ℕ, List, [], ◌∷◌, inl, inr, refl, sym, ap, ◌∙◌}
use Rattle.std.specs.Prelude.{true, cond, is_some, Option, Some, None, fold}
use Rattle.silo_address.specs.Grain.{Grain, grain_cmp}
use Rattle.silo_address.specs.declared.Entry.{Entry}
use Rattle.silo_address.proofs.Order.{grain_cmp_total, grain_cmp_exact}
use Rattle.ring_range.specs.Range.{Range}
use Rattle.directory_protocol.proofs.Changes.{grain_cases}
use Rattle.directory_rules.specs.State.{Table}
use Rattle.directory_rules.specs.Table.{entry_at, with_entry, table_of}
use Rattle.directory_rules.specs.Recovery.{with_reported}
use Rattle.directory_rules.specs.Standing.{rise_behind}
use Rattle.directory_rules.proofs.Cases.{on_bool}
use Rattle.directory_rules.proofs.Standings.{rise_parts, first_apart}
use Rattle.directory_facts.proofs.Lookups.{found_put, found_beside_put, lookup_first, lookup_later}
use Rattle.directory_facts.proofs.StandingEntries.{none_found}

-- one entry is taken
stays_one : (grain : Grain) (table : Table) (x e : Entry) → entry_at grain table ≡ Some e → entry_at grain (with_reported table x) ≡ Some e
stays_one grain table x e found =
    on_bool (λ b. is_some (entry_at x.grain table) ≡ b → entry_at grain (cond b table (with_entry table x)) ≡ Some e)
    (is_some (entry_at x.grain table))
    (λ t is. found)
    (λ f is. elim (grain_cases grain x.grain) [
      | inl same ↦ let some = ap is_some (ap (λ g. entry_at g table) (sym same) ∙ found) in absurd (cc (sym is ∙ some))
      | inr apart ↦ found_beside_put grain_cmp grain_cmp_total grain_cmp_exact x.grain x table grain apart ∙ found
    ]) refl

came_one : (grain : Grain) (table : Table) (x e : Entry) → entry_at grain (with_reported table x) ≡ Some e → (entry_at grain table ≡ Some e)
    ⊎ ((grain ≡ x.grain) × (x ≡ e))
came_one grain table x e =
    on_bool (λ b. entry_at grain (cond b table (with_entry table x)) ≡ Some e → (entry_at grain table ≡ Some e)
    ⊎ ((grain ≡ x.grain) × (x ≡ e))) (is_some (entry_at x.grain table))
    (λ t found. inl found)
    (λ f found. elim (grain_cases grain x.grain) [
      | inl same ↦
          let put : Some x ≡ Some e = sym (found_put grain_cmp grain_cmp_total grain_cmp_exact x.grain x table) ∙ ap (λ g. entry_at g (with_entry table x)) (sym same) ∙ found in
          let one : x ≡ e = cc (put) in inr (same, one)
      | inr apart ↦ inl (sym (found_beside_put grain_cmp grain_cmp_total grain_cmp_exact x.grain x table grain apart) ∙ found)
    ])

there_one : (table : Table) (x : Entry) → (e : Entry) × (entry_at x.grain (with_reported table x) ≡ Some e)
there_one table x =
    on_bool (λ b. is_some (entry_at x.grain table) ≡ b → (e : Entry) × (entry_at x.grain (cond b table (with_entry table x)) ≡ Some e))
    (is_some (entry_at x.grain table))
    (λ t is. some_is (entry_at x.grain table) is) (λ f is. (x, found_put grain_cmp grain_cmp_total grain_cmp_exact x.grain x table)) refl
  where
    some_is : (o : Option Entry) → is_some o ≡ true → (e : Entry) × (o ≡ Some e)
    some_is None is = absurd (cc (is))
    some_is (Some e) is = (e, refl)

-- what was there stays
pub union_stays : (grain : Grain) (entries : List Entry) (table : Table) (e : Entry) → entry_at grain table ≡ Some e
    → entry_at grain (fold with_reported table entries) ≡ Some e
union_stays grain [] table e found = found
union_stays grain (x ∷ xs) table e found = union_stays grain xs (with_reported table x) e (stays_one grain table x e found)

-- what is there was there, or is the report's, whose entries are of different grains
pub union_came :
    (hash : Grain → ℕ) (ranges : List Range) (after : Option Grain) (grain : Grain) (entries : List Entry) (table : Table) (e : Entry)
    → rise_behind hash ranges after entries ≡ true → entry_at grain (fold with_reported table entries) ≡ Some e
    → (entry_at grain table ≡ Some e) ⊎ (entry_at grain (table_of entries) ≡ Some e)
union_came hash ranges after grain [] table e rises found = inl found
union_came hash ranges after grain (x ∷ xs) table e rises found =
    elim (union_came hash ranges (Some x.grain) grain xs (with_reported table x) e (rise_parts hash ranges after x xs rises).1 found) [
      | inl before ↦ elim (came_one grain table x e before) [
        | inl old ↦ inl old
        | inr new ↦ inr (ap (λ g. entry_at g (table_of (x ∷ xs))) new.0 ∙ lookup_first grain_cmp grain_cmp_total x.grain x (table_of xs)
            ∙ ap Some new.1)
      ]
      | inr later ↦ inr (lookup_later grain_cmp grain_cmp_exact grain x.grain x (table_of xs) (λ same.
          let none = none_found x.grain xs (first_apart hash ranges after x xs rises) in
          let there = ap (λ g. entry_at g (table_of xs)) (sym same) ∙ later in
          absurd (cc (sym none ∙ there))) ∙ later)
    ]

-- each grain of the report has some entry
pub union_has : (grain : Grain) (entries : List Entry) (table : Table) (e : Entry) → entry_at grain (table_of entries) ≡ Some e
    → (other : Entry) × (entry_at grain (fold with_reported table entries) ≡ Some other)
union_has grain [] table e found = absurd (cc (found))
union_has grain (x ∷ xs) table e found =
    elim (grain_cases grain x.grain) [
      | inl same ↦
          let there = there_one table x in
          (there.0, union_stays grain xs (with_reported table x) there.0 (ap (λ g. entry_at g (with_reported table x)) same ∙ there.1))
      | inr apart ↦ union_has grain xs (with_reported table x) e
          (sym (lookup_later grain_cmp grain_cmp_exact grain x.grain x (table_of xs) apart) ∙ found)
    ]
