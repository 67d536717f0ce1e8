-- The entries of a table whose grains rise, of which a test picks some.
use Rattle.std.proofs.Common.{arith, ◌≡◌, ◌≢◌, suc, List, [], ◌∷◌, refl, sym, ap, subst, ◌∙◌}
use Rattle.std.specs.Prelude.{Bool, true, false, cond, All, AllPairs, Contains, Some, None, filter}
use Rattle.std.specs.List.{AllByRecursion}
use Rattle.std.specs.List.Sorted.{IsStrictlySortedBy}
use Rattle.std.specs.Map.{lookup, keys_of}
use Rattle.std.specs.BTreeMap.{is_at}
use Rattle.std.specs.Ordering.{is_eq}
use Rattle.std.specs.declared.cmp.Ordering.TheVariants.{Less}
use Rattle.std.proofs.lemmas.Cmp.{tied_itself}
use Rattle.std.proofs.lemmas.List.Elements.{All-nil, All-cons, All-head, All-tail}
use Rattle.std.proofs.lemmas.List.Kept.{AllPairs-cons, AllPairs-filter}
use Rattle.silo_address.specs.Grain.{Grain, grain_cmp}
use Rattle.silo_address.specs.declared.Entry.{Entry}
use Rattle.silo_address.proofs.Order.{grain_cmp_total, grain_cmp_exact}
use Rattle.directory_rules.specs.State.{Table}
use Rattle.directory_rules.specs.Table.{entry_at, entries_of, table_of}
use Rattle.directory_rules.proofs.Cases.{on_bool}
use Rattle.directory_facts.proofs.Entries.{same_key}
use Rattle.directory_facts.proofs.Tables.{InOrder}
use Rattle.directory_facts.proofs.Lookups.{absent_found, lookup_first, lookup_later}

-- ---- the first entry and the later ones
apart_from : (grain : Grain) (es : Table) → AllByRecursion (λ other. grain_cmp grain other ≡ Less) (keys_of es) → All (λ e. grain ≢ e.0) es
apart_from grain [] above = All-nil (λ e. grain ≢ e.0)
apart_from grain (e ∷ es) above =
    All-cons (λ x. grain ≢ x.0) e es
    (λ same.
    let less : grain_cmp grain grain ≡ Less = ap (grain_cmp grain) same ∙ above.0 in
    let tied = tied_itself grain_cmp_total grain in
    absurd (cc (sym less ∙ tied)))
    (apart_from grain es above.1)

pub head_apart : (e : Grain × Entry) (es : Table) → InOrder (e ∷ es) → All (λ x. e.0 ≢ x.0) es
unfolding IsStrictlySortedBy
head_apart e es table = apart_from e.0 es table.by_grain.0

pub table_tail : (e : Grain × Entry) (es : Table) → InOrder (e ∷ es) → InOrder es
unfolding IsStrictlySortedBy
table_tail e es table =
    record { by_grain = table.by_grain.1; own_grain = All-tail (λ (x : Grain × Entry). x.0 ≡ x.1.grain) e es table.own_grain }

first_own : (e : Grain × Entry) (es : Table) → InOrder (e ∷ es) → e.0 ≡ e.1.grain
first_own e es table = All-head (λ (x : Grain × Entry). x.0 ≡ x.1.grain) e es table.own_grain

first_found : (e : Grain × Entry) (es : Table) → InOrder (e ∷ es) → entry_at e.1.grain (e ∷ es) ≡ Some e.1
first_found e es table = ap (λ g. entry_at g (e ∷ es)) (sym (first_own e es table)) ∙ lookup_first grain_cmp grain_cmp_total e.0 e.1 es

-- what is found among the later ones is found
later_found : (e : Grain × Entry) (es : Table) (x : Entry) → InOrder (e ∷ es) → entry_at x.grain es ≡ Some x
    → entry_at x.grain (e ∷ es) ≡ Some x
later_found e es x table found =
    lookup_later grain_cmp grain_cmp_exact x.grain e.0 e.1 es (λ same.
    let none = absent_found grain_cmp grain_cmp_exact e.0 es (head_apart e es table) in
    let there = ap (λ g. entry_at g es) (sym same) ∙ found in
    absurd (cc (sym none ∙ there))) ∙ found

-- ---- what is found
-- an entry that is found is that grain's
pub found_own : (grain : Grain) (table : Table) (e : Entry) → All (λ x. x.0 ≡ x.1.grain) table → entry_at grain table ≡ Some e
    → e.grain ≡ grain
found_own grain [] e own found = absurd (cc (found))
found_own grain (x ∷ xs) e own found =
    on_bool (λ b. is_at (grain_cmp grain) x.0 ≡ b → cond b (Some x.1) (lookup (is_at (grain_cmp grain)) xs) ≡ Some e → e.grain ≡ grain)
    (is_at (grain_cmp grain) x.0)
    (λ t at is. let same : x.1 ≡ e = cc (is) in ap (λ (y : Entry). y.grain) (sym same)
    ∙ sym (All-head (λ (y : Grain × Entry). y.0 ≡ y.1.grain) x xs own) ∙ sym (same_key grain_cmp grain_cmp_exact grain x.0 at))
    (λ f at is. found_own grain xs e (All-tail (λ (y : Grain × Entry). y.0 ≡ y.1.grain) x xs own) is)
    refl found

-- what holds of all entries holds of one that is found
pub found_holds : (P : Grain × Entry → Type 0) (grain : Grain) (table : Table) (e : Entry) → All P table → entry_at grain table ≡ Some e
    → P (grain, e)
found_holds P grain [] e all found = absurd (cc (found))
found_holds P grain (x ∷ xs) e all found =
    on_bool (λ b. is_at (grain_cmp grain) x.0 ≡ b → cond b (Some x.1) (lookup (is_at (grain_cmp grain)) xs) ≡ Some e → P (grain, e))
    (is_at (grain_cmp grain) x.0)
    (λ t at is. let same : x.1 ≡ e = cc (is) in subst (λ y. P (grain, y)) same
    (subst (λ g. P (g, x.1)) (sym (same_key grain_cmp grain_cmp_exact grain x.0 at)) (All-head P x xs all)))
    (λ f at is. found_holds P grain xs e (All-tail P x xs all) is)
    refl found

-- ---- the table again
-- a table whose entries stand under their own grains is made of them again
pub table_again : (table : Table) → All (λ e. e.0 ≡ e.1.grain) table → table_of (entries_of table) ≡ table
table_again [] all = refl
table_again (e ∷ es) all =
    ap (λ (g : Grain). (g, e.1) ∷ table_of (entries_of es)) (sym (All-head (λ (x : Grain × Entry). x.0 ≡ x.1.grain) e es all))
    ∙ ap (λ t. e ∷ t) (table_again es (All-tail (λ (x : Grain × Entry). x.0 ≡ x.1.grain) e es all))

-- a grain below all of them has no entry
pub none_above : (grain : Grain) (es : Table) → AllByRecursion (λ other. grain_cmp grain other ≡ Less) (keys_of es)
    → entry_at grain es ≡ None
none_above grain [] above = refl
none_above grain (e ∷ es) above = ap (λ r. cond (is_eq r) (Some e.1) (entry_at grain es)) above.0 ∙ none_above grain es above.1

-- what holds of each entry that is found under its grain
pub each_found : (P : Entry → Type 0) (table : Table) → InOrder table → ((e : Entry) → entry_at e.grain table ≡ Some e → P e)
    → All P (entries_of table)
each_found P [] table each = All-nil P
each_found P (x ∷ xs) table each =
    All-cons P x.1 (entries_of xs) (each x.1 (first_found x xs table))
    (each_found P xs (table_tail x xs table) (λ e found. each e (later_found x xs e table found)))

-- ---- one entry a grain
apart_entries : (grain : Grain) (es : Table) → All (λ e. e.0 ≡ e.1.grain) es → All (λ e. grain ≢ e.0) es
    → All (λ e. grain ≢ e.grain) (entries_of es)
apart_entries grain [] own apart = All-nil (λ (e : Entry). grain ≢ e.grain)
apart_entries grain (e ∷ es) own apart =
    All-cons (λ (x : Entry). grain ≢ x.grain) e.1 (entries_of es)
    (subst (λ g. grain ≢ g) (All-head (λ (x : Grain × Entry). x.0 ≡ x.1.grain) e es own) (All-head (λ x. grain ≢ x.0) e es apart))
    (apart_entries grain es (All-tail (λ (x : Grain × Entry). x.0 ≡ x.1.grain) e es own) (All-tail (λ x. grain ≢ x.0) e es apart))

pub each_once : (table : Table) → InOrder table → AllPairs (λ e later. e.grain ≢ later.grain) (entries_of table)
each_once [] table = λ i j d less below. absurd (omega (arith, below))
each_once (x ∷ xs) table =
    AllPairs-cons (λ (e later : Entry). e.grain ≢ later.grain) x.1 (entries_of xs)
    (subst (λ g. All (λ (e : Entry). g ≢ e.grain) (entries_of xs)) (first_own x xs table)
    (apart_entries x.0 xs (All-tail (λ (e : Grain × Entry). e.0 ≡ e.1.grain) x xs table.own_grain) (head_apart x xs table)))
    (each_once xs (table_tail x xs table))

-- ---- the entries that pass a test
module _ (test : Entry → Bool) where
  contains_more : (x y : Entry) (xs : List Entry) → Contains xs y → Contains (x ∷ xs) y
  contains_more x y xs c = (suc c.0, omega (arith, c.1), c.2)

  picked_more : (b : Bool) (x y : Entry) (xs : List Entry) → Contains xs y → Contains (cond b (x ∷ xs) xs) y
  picked_more true x y xs c = contains_more x y xs c
  picked_more false x y xs c = c

  pub picked_found : (grain : Grain) (table : Table) (e : Entry) → entry_at grain table ≡ Some e → test e ≡ true
      → Contains (filter test (entries_of table)) e
  picked_found grain [] e found passes = absurd (cc (found))
  picked_found grain (x ∷ xs) e found passes =
      on_bool (λ b. is_at (grain_cmp grain) x.0 ≡ b → cond b (Some x.1) (lookup (is_at (grain_cmp grain)) xs) ≡ Some e
      → Contains (filter test (entries_of (x ∷ xs))) e) (is_at (grain_cmp grain) x.0)
      (λ t at is.
      let same : x.1 ≡ e = cc (is) in
      let all : filter test (entries_of (x ∷ xs)) ≡ e ∷ filter test (entries_of xs) =
      ap (λ b. cond b (x.1 ∷ filter test (entries_of xs)) (filter test (entries_of xs))) (ap test same ∙ passes)
      ∙ ap (λ y. y ∷ filter test (entries_of xs)) same in
      subst (λ l. Contains l e) (sym all) (0, omega arith, refl))
      (λ f at is. picked_more (test x.1) x.1 e (filter test (entries_of xs)) (picked_found grain xs e is passes))
      refl found

  pub picked_all : (P : Entry → Type 0) (table : Table) → InOrder table
      → ((e : Entry) → entry_at e.grain table ≡ Some e → test e ≡ true → P e) → All P (filter test (entries_of table))
  picked_all P [] table each = All-nil P
  picked_all P (x ∷ xs) table each =
      let later = picked_all P xs (table_tail x xs table) (λ e found passes. each e (later_found x xs e table found) passes) in
      on_bool (λ b. test x.1 ≡ b → All P (cond b (x.1 ∷ filter test (entries_of xs)) (filter test (entries_of xs)))) (test x.1)
      (λ t passes. All-cons P x.1 (filter test (entries_of xs)) (each x.1 (first_found x xs table) passes) later) (λ f fails. later) refl

  pub picked_once : (table : Table) → InOrder table → AllPairs (λ e later. e.grain ≢ later.grain) (filter test (entries_of table))
  picked_once table is = AllPairs-filter (λ (e later : Entry). e.grain ≢ later.grain) test (entries_of table) (each_once table is)
