-- What is found among entries that stand in order, and what holds of each of them.
use Rattle.std.proofs.Common.{◌≡◌, ◌≢◌, refl, sym, ap, ◌∙◌, ℕ, zero, suc, List, [], ◌∷◌}
use Rattle.std.specs.Prelude.{◌&&◌, Bool, true, false, cond, All, Option, Some, None, filter, map, take}
use Rattle.std.specs.Map.{lookup}
use Rattle.std.specs.BTreeMap.{is_at, insert_entry}
use Rattle.std.proofs.lemmas.List.Elements.{All-nil, All-head, All-tail, All-map, All-filter, All-take, All-weaker}
use Rattle.texts.proofs.Entries.{sorted-nil}
use Rattle.silo_address.specs.Grain.{Grain, grain_cmp}
use Rattle.silo_address.specs.declared.Entry.{Entry}
use Rattle.silo_address.proofs.Order.{grain_cmp_total, grain_cmp_exact}
use Rattle.ring_range.specs.Range.{Range, holds}
use Rattle.hash_ring.specs.Hash.{hash_grain}
use Rattle.directory_rules.specs.declared.held.Held.{Held}
use Rattle.directory_rules.specs.State.{Table, Node}
use Rattle.directory_rules.specs.Table.{entry_at, table_of}
use Rattle.directory_rules.specs.Standing.{standing_cmp, stands_behind, rise_behind, as_they_stand, last_grain}
use Rattle.directory_rules.specs.Host.{entry_of, is_firm, firm_entries}
use Rattle.directory_rules.specs.Transfer.{report_of}
use Rattle.directory_rules.proofs.Cases.{on_bool}
use Rattle.directory_rules.proofs.Standings.{standing_total, standing_exact, all_behind, rise_parts, put_as_they_stand, put_sorted, rise_all}
use Rattle.directory_facts.proofs.Entries.{same_key, all_put}
use Rattle.directory_facts.proofs.Lookups.{at_itself, absent_found, lookup_later}

abbrev pub keyed : Entry → Grain × Entry
keyed entry = (entry.grain, entry)

-- no entry of them is the grain's
pub none_found : (grain : Grain) (es : List Entry) → All (λ e. grain ≢ e.grain) es → entry_at grain (table_of es) ≡ None
none_found grain es apart =
    absent_found grain_cmp grain_cmp_exact grain (table_of es) (All-map (λ (e : Grain × Entry). grain ≢ e.0) keyed es apart)

-- a test of grains that the grain passes leaves its entry
pub found_filtered : (test : Grain → Bool) (grain : Grain) (es : List Entry) → test grain ≡ true
    → entry_at grain (table_of (filter (λ e. test e.grain) es)) ≡ entry_at grain (table_of es)
found_filtered test grain [] passes = refl
found_filtered test grain (e ∷ es) passes =
    on_bool (λ b. test e.grain ≡ b → entry_at grain (table_of (cond b (e ∷ filter (λ x. test x.grain) es) (filter (λ x. test x.grain) es)))
    ≡ entry_at grain (table_of (e ∷ es))) (test e.grain)
    (λ t is. ap (λ o. cond (is_at (grain_cmp grain) e.grain) (Some e) o) (found_filtered test grain es passes))
    (λ f fails. found_filtered test grain es passes
    ∙ sym (lookup_later grain_cmp grain_cmp_exact grain e.grain e (table_of es) (λ same.
    let both = sym passes ∙ ap test same ∙ fails in absurd (cc (both)))))
    refl

-- ---- look-ups in two orders of grains
module _ (hash : Grain → ℕ) (ranges : List Range) where
  at_alike : (grain other : Grain) → is_at (standing_cmp hash ranges grain) other ≡ is_at (grain_cmp grain) other
  at_alike grain other =
      on_bool (λ b. is_at (grain_cmp grain) other ≡ b → is_at (standing_cmp hash ranges grain) other ≡ b) (is_at (grain_cmp grain) other)
      (λ t at. ap (λ g. is_at (standing_cmp hash ranges grain) g) (sym (same_key grain_cmp grain_cmp_exact grain other at)) ∙ itself grain)
      (λ f at. on_bool (λ b. is_at (standing_cmp hash ranges grain) other ≡ b → b ≡ false) (is_at (standing_cmp hash ranges grain) other)
      (λ t is.
      let same = same_key (standing_cmp hash ranges) (standing_exact hash ranges) grain other is in
      let itself_at = ap (λ g. is_at (grain_cmp grain) g) (sym same) ∙ grain_itself grain in
      absurd (cc (sym at ∙ itself_at))) (λ u is. refl) refl)
      refl
    where
      itself : (g : Grain) → is_at (standing_cmp hash ranges g) g ≡ true
      itself g = at_itself (standing_cmp hash ranges) (standing_total hash ranges) g

      grain_itself : (g : Grain) → is_at (grain_cmp g) g ≡ true
      grain_itself g = at_itself grain_cmp grain_cmp_total g

  pub lookup_alike : {X : Type 0} (grain : Grain) (es : List (Grain × X))
      → lookup (is_at (standing_cmp hash ranges grain)) es ≡ lookup (is_at (grain_cmp grain)) es
  lookup_alike grain [] = refl
  lookup_alike grain (e ∷ es) =
      ap (λ b. cond b (Some e.1) (lookup (is_at (standing_cmp hash ranges grain)) es)) (at_alike grain e.0)
      ∙ ap (λ o. cond (is_at (grain_cmp grain) e.0) (Some e.1) o) (lookup_alike grain es)

  -- the first of entries that rise behind a grain have the entry of each grain that doesn't stand behind the last of them
  pub found_taken : (n : ℕ) (after : Option Grain) (grain : Grain) (es : List Entry) → rise_behind hash ranges after es ≡ true
      → stands_behind hash ranges (last_grain after (take n es)) grain ≡ false
      → entry_at grain (table_of (take n es)) ≡ entry_at grain (table_of es)
  found_taken zero after grain es rises upto =
      sym (none_found grain es (All-weaker (λ (e : Entry). stands_behind hash ranges after e.grain ≡ true) (λ (e : Entry). grain ≢ e.grain)
      (λ e is same. let here = ap (stands_behind hash ranges after) same ∙ is in absurd (cc (sym upto ∙ here))) es
      (all_behind hash ranges after es rises)))
  found_taken (suc n) after grain [] rises upto = refl
  found_taken (suc n) after grain (e ∷ es) rises upto =
      ap (λ o. cond (is_at (grain_cmp grain) e.grain) (Some e) o)
      (found_taken n (Some e.grain) grain es (rise_parts hash ranges after e es rises).1 upto)

  -- ---- entries as they stand
  pub all_as_they_stand : (P : Entry → Type 0) (es : List Entry) (table : Table) → All P es → All (λ e. P e.1) table
      → All (λ e. P e.1) (put_as_they_stand hash ranges table es)
  all_as_they_stand P [] table more all = all
  all_as_they_stand P (e ∷ es) table more all =
      all_as_they_stand P es (insert_entry (standing_cmp hash ranges) table e.grain e) (All-tail P e es more)
      (all_put (standing_cmp hash ranges) (standing_exact hash ranges) (λ (x : Grain × Entry). P x.1) e.grain e table all
      (All-head P e es more))

  pub own_as_they_stand : (es : List Entry) (table : Table) → All (λ e. e.0 ≡ e.1.grain) table
      → All (λ e. e.0 ≡ e.1.grain) (put_as_they_stand hash ranges table es)
  own_as_they_stand [] table all = all
  own_as_they_stand (e ∷ es) table all =
      own_as_they_stand es (insert_entry (standing_cmp hash ranges) table e.grain e)
      (all_put (standing_cmp hash ranges) (standing_exact hash ranges) (λ (x : Grain × Entry). x.0 ≡ x.1.grain) e.grain e table all refl)

  pub as_they_stand_rise : (es : List Entry) → rise_behind hash ranges None (as_they_stand hash ranges es) ≡ true
  as_they_stand_rise es =
      rise_all hash ranges (put_as_they_stand hash ranges [] es) (put_sorted hash ranges es [] (sorted-nil (standing_cmp hash ranges)))
      (own_as_they_stand es [] (All-nil (λ (e : Grain × Entry). e.0 ≡ e.1.grain)))

-- what is so of each activation held is so of each entry that is told
pub all_reported : (P : Entry → Type 0) (node : Node) (range : Range) (after : Option Grain)
    → All (λ e. P (entry_of node.host e.0 e.1)) node.host.held → All P (report_of node range after).entries
all_reported P node range after all =
    let hash = hash_grain node.settings.hashing in
    let test = λ (e : Grain × Held). is_firm e.1.phase && holds range (hash_grain node.settings.hashing e.0) in
    let of_held = λ (e : Grain × Held). entry_of node.host e.0 e.1 in
    let firm = map of_held (filter test node.host.held) in
    All-take P node.settings.report_size (filter (λ (e : Entry). stands_behind hash (range ∷ []) after e.grain)
    (firm_entries node.settings.hashing node.host range))
    (All-filter (λ (e : Entry). stands_behind hash (range ∷ []) after e.grain) P (firm_entries node.settings.hashing node.host range)
    (All-map P (λ (e : Grain × Entry). e.1) (put_as_they_stand hash (range ∷ []) [] firm)
    (all_as_they_stand hash (range ∷ []) P firm []
    (All-map P of_held (filter test node.host.held) (All-filter test (λ (e : Grain × Held). P (of_held e)) node.host.held all))
    (All-nil (λ (e : Grain × Entry). P e.1)))))
