-- Standings: their order, what rises behind a grain, and that entries put as they stand rise.
use Rattle.std.proofs.Common.{◌≡◌, ◌≢◌, refl, sym, ap, ◌∙◌, ℕ, zero, suc, List, [], ◌∷◌}
use Rattle.std.specs.Prelude.{Bool, true, false, cond, All, Option, Some, None, fold, filter, take}
use Rattle.std.specs.Cmp.{IsTotalOrder}
use Rattle.std.specs.List.{AllByRecursion}
use Rattle.std.specs.List.Sorted.{IsStrictlySortedBy}
use Rattle.std.specs.Map.{keys_of, values_of}
use Rattle.std.specs.BTreeMap.{insert_entry}
use Rattle.std.specs.Ordering.{is_lt, nat_cmp}
use Rattle.std.specs.declared.cmp.Ordering.{Ordering}
use Rattle.std.specs.declared.cmp.Ordering.TheVariants.{Less, Equal, Greater}
use Rattle.std.proofs.lemmas.Bool.{and_parts, and_from}
use Rattle.std.proofs.lemmas.Cmp.{then_total, on_total, nat_cmp_total, tied_itself}
use Rattle.std.proofs.lemmas.List.Elements.{All-nil, All-cons, All-head, All-tail, All-weaker}
use Rattle.std.proofs.lemmas.Map.Lookups.{CmpEqualImpliesEq}
use Rattle.texts.proofs.Entries.{sorted-insert_entry}
use Rattle.silo_address.specs.Grain.{Grain, grain_cmp}
use Rattle.silo_address.specs.declared.Entry.{Entry}
use Rattle.silo_address.proofs.Order.{grain_cmp_total, grain_cmp_exact, both_tie}
use Rattle.ring_range.specs.Range.{Range}
use Rattle.directory_rules.specs.State.{Table}
use Rattle.directory_rules.specs.Standing.{steps_to, standing_cmp, stands_behind, rise_behind, last_grain}
use Rattle.directory_rules.proofs.Cases.{on_bool}

pub less_from : (r : Ordering) → is_lt r ≡ true → r ≡ Less
less_from Less is = refl
less_from Equal is = absurd (cc (is))
less_from Greater is = absurd (cc (is))

-- a test that every element passes picks all
pub filter_all : {X : Type 0} (test : X → Bool) (xs : List X) → All (λ x. test x ≡ true) xs → filter test xs ≡ xs
filter_all test [] all = refl
filter_all test (x ∷ xs) all =
    ap (λ b. cond b (x ∷ filter test xs) (filter test xs)) (All-head (λ y. test y ≡ true) x xs all)
    ∙ ap (λ l. x ∷ l) (filter_all test xs (All-tail (λ y. test y ≡ true) x xs all))

module _ (hash : Grain → ℕ) (ranges : List Range) where
  pub standing_total : IsTotalOrder (standing_cmp hash ranges)
  standing_total = then_total (on_total (λ (grain : Grain). steps_to ranges (hash grain)) nat_cmp_total) grain_cmp_total

  pub standing_exact : CmpEqualImpliesEq (standing_cmp hash ranges)
  standing_exact a b tied =
      grain_cmp_exact a b (both_tie (nat_cmp (steps_to ranges (hash a)) (steps_to ranges (hash b))) (grain_cmp a b) tied).1

  abbrev behind : Option Grain → Grain → Bool
  behind after grain = stands_behind hash ranges after grain

  abbrev rise : Option Grain → List Entry → Bool
  rise after entries = rise_behind hash ranges after entries

  -- no grain stands behind itself, and what stands behind a grain that stands behind another stands behind that
  pub not_behind_itself : (grain : Grain) → behind (Some grain) grain ≡ false
  not_behind_itself grain = ap is_lt (tied_itself standing_total grain)

  pub behind_both : (after : Option Grain) (middle grain : Grain) → behind after middle ≡ true → behind (Some middle) grain ≡ true
      → behind after grain ≡ true
  behind_both None middle grain one other = refl
  behind_both (Some after) middle grain one other =
      ap is_lt (standing_total.trans after middle grain (less_from (standing_cmp hash ranges after middle) one)
      (less_from (standing_cmp hash ranges middle grain) other))

  -- ---- entries that rise behind a grain
  pub rise_parts : (after : Option Grain) (e : Entry) (es : List Entry) → rise after (e ∷ es) ≡ true
      → (behind after e.grain ≡ true) × (rise (Some e.grain) es ≡ true)
  rise_parts after e es rises = and_parts (behind after e.grain) (rise (Some e.grain) es) rises

  -- what stands behind the last of them stands behind that grain
  pub behind_last : (after : Option Grain) (es : List Entry) (grain : Grain) → rise after es ≡ true
      → behind (last_grain after es) grain ≡ true → behind after grain ≡ true
  behind_last after [] grain rises is = is
  behind_last after (e ∷ es) grain rises is =
      let so = rise_parts after e es rises in behind_both after e.grain grain so.0 (behind_last (Some e.grain) es grain so.1 is)

  -- each of them stands behind it, and none behind the last
  pub all_behind : (after : Option Grain) (es : List Entry) → rise after es ≡ true → All (λ e. behind after e.grain ≡ true) es
  all_behind after [] rises = All-nil (λ (e : Entry). behind after e.grain ≡ true)
  all_behind after (e ∷ es) rises =
      let so = rise_parts after e es rises in
      All-cons (λ (x : Entry). behind after x.grain ≡ true) e es so.0
      (All-weaker (λ (x : Entry). behind (Some e.grain) x.grain ≡ true) (λ (x : Entry). behind after x.grain ≡ true)
      (λ x is. behind_both after e.grain x.grain so.0 is) es (all_behind (Some e.grain) es so.1))

  first_upto_last : (e : Entry) (es : List Entry) → rise (Some e.grain) es ≡ true → behind (last_grain (Some e.grain) es) e.grain ≡ false
  first_upto_last e es rises =
      on_bool (λ b. behind (last_grain (Some e.grain) es) e.grain ≡ b → b ≡ false) (behind (last_grain (Some e.grain) es) e.grain)
      (λ t is. sym (behind_last (Some e.grain) es e.grain rises is) ∙ not_behind_itself e.grain) (λ f is. refl) refl

  pub none_behind_last : (after : Option Grain) (es : List Entry) → rise after es ≡ true
      → All (λ e. behind (last_grain after es) e.grain ≡ false) es
  none_behind_last after [] rises = All-nil (λ (e : Entry). behind after e.grain ≡ false)
  none_behind_last after (e ∷ es) rises =
      let so = rise_parts after e es rises in
      All-cons (λ (x : Entry). behind (last_grain (Some e.grain) es) x.grain ≡ false) e es (first_upto_last e es so.1)
      (none_behind_last (Some e.grain) es so.1)

  -- the later ones are of other grains than the first
  pub first_apart : (after : Option Grain) (e : Entry) (es : List Entry) → rise after (e ∷ es) ≡ true → All (λ x. e.grain ≢ x.grain) es
  first_apart after e es rises =
      All-weaker (λ (x : Entry). behind (Some e.grain) x.grain ≡ true) (λ (x : Entry). e.grain ≢ x.grain)
      (λ x is same. let itself = ap (behind (Some e.grain)) same ∙ is in absurd (cc (sym (not_behind_itself e.grain) ∙ itself))) es
      (all_behind (Some e.grain) es (rise_parts after e es rises).1)

  -- those of them that stand behind a grain rise behind that, and the first of them behind the same
  pub rise_filtered : (after other : Option Grain) (es : List Entry) → rise other es ≡ true
      → rise after (filter (λ e. behind after e.grain) es) ≡ true
  rise_filtered after other [] rises = refl
  rise_filtered after other (e ∷ es) rises =
      let so = rise_parts other e es rises in
      on_bool (λ b. behind after e.grain ≡ b
      → rise after (cond b (e ∷ filter (λ x. behind after x.grain) es) (filter (λ x. behind after x.grain) es)) ≡ true)
      (behind after e.grain)
      (λ t is. and_from (behind after e.grain) (rise (Some e.grain) (filter (λ x. behind after x.grain) es)) is
      (ap (rise (Some e.grain)) (filter_all (λ (x : Entry). behind after x.grain) es
      (All-weaker (λ (x : Entry). behind (Some e.grain) x.grain ≡ true) (λ (x : Entry). behind after x.grain ≡ true)
      (λ x further. behind_both after e.grain x.grain is further) es (all_behind (Some e.grain) es so.1))) ∙ so.1))
      (λ f is. rise_filtered after (Some e.grain) es so.1) refl

  pub rise_taken : (n : ℕ) (after : Option Grain) (es : List Entry) → rise after es ≡ true → rise after (take n es) ≡ true
  rise_taken zero after es rises = refl
  rise_taken (suc n) after [] rises = refl
  rise_taken (suc n) after (e ∷ es) rises =
      let so = rise_parts after e es rises in
      and_from (behind after e.grain) (rise (Some e.grain) (take n es)) so.0 (rise_taken n (Some e.grain) es so.1)

  -- ---- entries as they stand
  abbrev pub put_as_they_stand : Table → List Entry → Table
  put_as_they_stand table entries = fold (λ table entry. insert_entry (standing_cmp hash ranges) table entry.grain entry) table entries

  pub put_sorted : (entries : List Entry) (table : Table) → IsStrictlySortedBy (standing_cmp hash ranges) (keys_of table)
      → IsStrictlySortedBy (standing_cmp hash ranges) (keys_of (put_as_they_stand table entries))
  put_sorted [] table sorted = sorted
  put_sorted (e ∷ es) table sorted =
      put_sorted es (insert_entry (standing_cmp hash ranges) table e.grain e) (sorted-insert_entry standing_total e.grain e table sorted)

  -- a table in this order, each entry under its own grain, has entries that rise
  pub rise_from : (grain : Grain) (table : Table) → AllByRecursion (λ y. standing_cmp hash ranges grain y ≡ Less) (keys_of table)
      → IsStrictlySortedBy (standing_cmp hash ranges) (keys_of table) → All (λ e. e.0 ≡ e.1.grain) table
      → rise (Some grain) (values_of table) ≡ true
  unfolding IsStrictlySortedBy
  rise_from grain [] above sorted own = refl
  rise_from grain (x ∷ xs) above sorted own =
      let its : x.0 ≡ x.1.grain = All-head (λ (e : Grain × Entry). e.0 ≡ e.1.grain) x xs own in
      and_from (behind (Some grain) x.1.grain) (rise (Some x.1.grain) (values_of xs))
      (ap is_lt (ap (standing_cmp hash ranges grain) (sym its) ∙ above.0))
      (ap (λ g. rise (Some g) (values_of xs)) (sym its)
      ∙ rise_from x.0 xs sorted.0 sorted.1 (All-tail (λ (e : Grain × Entry). e.0 ≡ e.1.grain) x xs own))

  pub rise_all : (table : Table) → IsStrictlySortedBy (standing_cmp hash ranges) (keys_of table) → All (λ e. e.0 ≡ e.1.grain) table
      → rise None (values_of table) ≡ true
  unfolding IsStrictlySortedBy
  rise_all [] sorted own = refl
  rise_all (x ∷ xs) sorted own =
      ap (λ g. rise (Some g) (values_of xs)) (sym (All-head (λ (e : Grain × Entry). e.0 ≡ e.1.grain) x xs own))
      ∙ rise_from x.0 xs sorted.0 sorted.1 (All-tail (λ (e : Grain × Entry). e.0 ≡ e.1.grain) x xs own)
