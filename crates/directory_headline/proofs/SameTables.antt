-- Tables whose grains rise are one where they have the same entries; so all that is said of a range has one list.
use Rattle.std.proofs.Common.{◌≡◌, ℕ, List, [], ◌∷◌, inl, inr, refl, sym, ap, ◌∙◌}
use Rattle.std.specs.Prelude.{true, false, cond, Option, Some, None}
use Rattle.std.specs.List.Sorted.{IsStrictlySortedBy}
use Rattle.std.specs.Ordering.{is_eq, ordering_reverse}
use Rattle.std.specs.declared.cmp.Ordering.{Ordering}
use Rattle.std.specs.declared.cmp.Ordering.TheVariants.{Less, Equal, Greater}
use Rattle.std.proofs.lemmas.List.Elements.{All-map}
use Rattle.silo_address.specs.Grain.{Grain, grain_cmp}
use Rattle.silo_address.specs.declared.ActivationId.{ActivationId}
use Rattle.silo_address.specs.declared.Entry.{Entry}
use Rattle.silo_address.proofs.Order.{grain_cmp_total, grain_cmp_exact}
use Rattle.ring_range.specs.Range.{Range, holds}
use Rattle.directory_rules.specs.State.{Table}
use Rattle.directory_rules.specs.Table.{entry_at, entries_of, table_of}
use Rattle.texts.proofs.Entries.{all_above}
use Rattle.directory_rules.proofs.Cases.{on_bool}
use Rattle.directory_rules.proofs.RisingTables.{entries_again}
use Rattle.directory_facts.proofs.Tables.{order_rising, InOrder}
use Rattle.directory_headline.specs.Shown.{IsListOf, activation_in}
use Rattle.directory_facts.proofs.Lookups.{absent_found, lookup_first, lookup_later}
use Rattle.directory_headline.proofs.TableEntries.{table_tail, head_apart, found_own, found_holds, none_above}
use Rattle.directory_protocol.proofs.Changes.{grain_cases}

-- a grain below the first one has no entry
none_below : (grain : Grain) (e : Grain × Entry) (es : Table) → InOrder (e ∷ es) → grain_cmp grain e.0 ≡ Less
    → entry_at grain (e ∷ es) ≡ None
unfolding IsStrictlySortedBy
none_below grain e es is less =
    ap (λ r. cond (is_eq r) (Some e.1) (entry_at grain es)) less
    ∙ none_above grain es (all_above grain_cmp_total grain e.0 es less is.by_grain.0)

pub same_tables : (one other : Table) → InOrder one → InOrder other → ((grain : Grain) → entry_at grain one ≡ entry_at grain other)
    → one ≡ other
same_tables [] [] is its same = refl
same_tables [] (y ∷ ys) is its same = absurd (cc (same y.0 ∙ lookup_first grain_cmp grain_cmp_total y.0 y.1 ys))
same_tables (x ∷ xs) [] is its same = absurd (cc (sym (same x.0) ∙ lookup_first grain_cmp grain_cmp_total x.0 x.1 xs))
same_tables (x ∷ xs) (y ∷ ys) is its same =
    by (grain_cmp x.0 y.0) refl (λ rest. same_tables xs ys (table_tail x xs is) (table_tail y ys its) rest)
  where
    here : entry_at x.0 (x ∷ xs) ≡ Some x.1
    here = lookup_first grain_cmp grain_cmp_total x.0 x.1 xs

    there : entry_at y.0 (y ∷ ys) ≡ Some y.1
    there = lookup_first grain_cmp grain_cmp_total y.0 y.1 ys

    tails : x.0 ≡ y.0 → (grain : Grain) → entry_at grain xs ≡ entry_at grain ys
    tails keys grain =
        elim (grain_cases grain x.0) [
          | inl at ↦
              ap (λ g. entry_at g xs) at ∙ absent_found grain_cmp grain_cmp_exact x.0 xs (head_apart x xs is)
              ∙ sym (ap (λ g. entry_at g ys) (at ∙ keys) ∙ absent_found grain_cmp grain_cmp_exact y.0 ys (head_apart y ys its))
          | inr apart ↦
              sym (lookup_later grain_cmp grain_cmp_exact grain x.0 x.1 xs apart) ∙ same grain
              ∙ lookup_later grain_cmp grain_cmp_exact grain y.0 y.1 ys (λ at. apart (at ∙ sym keys))
        ]

    by : (r : Ordering) → grain_cmp x.0 y.0 ≡ r → (((grain : Grain) → entry_at grain xs ≡ entry_at grain ys) → xs ≡ ys) → x ∷ xs ≡ y ∷ ys
    by Less at rest = absurd (cc (sym here ∙ same x.0 ∙ none_below x.0 y ys its at))
    by Equal at rest =
        let keys = grain_cmp_exact x.0 y.0 at in
        let values : Some x.1 ≡ Some y.1 = sym here ∙ same x.0 ∙ ap (λ g. entry_at g (y ∷ ys)) keys ∙ there in
        let value : x.1 ≡ y.1 = cc (values) in
        ap (λ (g : Grain). (g, x.1) ∷ xs) keys ∙ ap (λ (e : Entry). (y.0, e) ∷ xs) value ∙ ap (λ t. y ∷ t) (rest (tails keys))
    by Greater at rest =
        let less = grain_cmp_total.antisymm y.0 x.0 ∙ ap ordering_reverse at in
        absurd (cc (sym there ∙ sym (same y.0) ∙ none_below y.0 x xs is less))

-- ---- lists of what is said of a range
module _ (hash : Grain → ℕ) (range : Range) (says : Grain → Option ActivationId) where
  list_table : (entries : List Entry) → IsListOf hash range says entries → InOrder (table_of entries)
  list_table entries is = order_rising entries is.rising

  -- an entry of the list is of the range
  lies_in : (entries : List Entry) → IsListOf hash range says entries → (grain : Grain) (e : Entry)
      → entry_at grain (table_of entries) ≡ Some e → holds range (hash grain) ≡ true
  lies_in entries is grain e found =
      let table = list_table entries is in
      ap (λ g. holds range (hash g)) (sym (found_own grain (table_of entries) e table.own_grain found))
      ∙ found_holds (λ x. holds range (hash x.1.grain) ≡ true) grain (table_of entries) e
      (All-map (λ (x : Grain × Entry). holds range (hash x.1.grain) ≡ true) (λ entry. (entry.grain, entry)) entries is.inside) found

  same_entry_of : (grain : Grain) (a b : Option Entry) → ((e : Entry) → a ≡ Some e → e.grain ≡ grain)
      → ((e : Entry) → b ≡ Some e → e.grain ≡ grain) → activation_in a ≡ activation_in b → a ≡ b
  same_entry_of grain None None own its same = refl
  same_entry_of grain None (Some e) own its same = absurd (cc (same))
  same_entry_of grain (Some e) None own its same = absurd (cc (same))
  same_entry_of grain (Some e) (Some x) own its same =
      let grains : e.grain ≡ x.grain = own e refl ∙ sym (its x refl) in
      let activations : e.activation ≡ x.activation = cc (same) in
      ap (λ (g : Grain). let y : Entry = record { grain = g; activation = e.activation } in Some y) grains
      ∙ ap (λ (a : ActivationId). let y : Entry = record { grain = x.grain; activation = a } in Some y) activations

  outside : (entries : List Entry) → IsListOf hash range says entries → (grain : Grain) → holds range (hash grain) ≡ false
      → entry_at grain (table_of entries) ≡ None
  outside entries is grain apart = by (entry_at grain (table_of entries)) refl
    where
      by : (o : Option Entry) → entry_at grain (table_of entries) ≡ o → o ≡ None
      by None found = refl
      by (Some e) found = absurd (cc (sym apart ∙ lies_in entries is grain e found))

  pub one_list : (one other : List Entry) → IsListOf hash range says one → IsListOf hash range says other → one ≡ other
  one_list one other is its =
      sym (entries_again one)
      ∙ ap entries_of (same_tables (table_of one) (table_of other) (list_table one is) (list_table other its) (λ grain.
      on_bool (λ b. holds range (hash grain) ≡ b → entry_at grain (table_of one) ≡ entry_at grain (table_of other))
      (holds range (hash grain))
      (λ t held. same_entry_of grain (entry_at grain (table_of one)) (entry_at grain (table_of other))
      (λ e found. found_own grain (table_of one) e (list_table one is).own_grain found)
      (λ e found. found_own grain (table_of other) e (list_table other its).own_grain found)
      (sym (is.exact grain held) ∙ its.exact grain held))
      (λ u apart. outside one is grain apart ∙ sym (outside other its grain apart)) refl))
      ∙ entries_again other
