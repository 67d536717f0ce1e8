-- What a silo reports: the count of each firm activation whose grain is hashed into the range, of the grains of which it tells.
use Rattle.std.proofs.Common.{arith, ◌≡◌, ◌≢◌, ℕ, zero, suc, ◌<◌, List, [], ◌∷◌, inl, inr, refl, sym, ap, ◌∙◌}
use Rattle.std.specs.Prelude.{◌&&◌, ◌||◌, not, nat_le, Bool, true, false, cond, if◌then◌else◌, is_some, All, AllPairs, Contains, Option, Some, None, map, filter, take, length}
use Rattle.std.specs.List.{slice_index_or}
use Rattle.std.specs.Option.{option_map, option_or}
use Rattle.std.specs.Map.{lookup}
use Rattle.std.specs.BTreeMap.{is_at, insert_entry}
use Rattle.std.specs.Cmp.{IsTotalOrder}
use Rattle.std.specs.declared.cmp.Ordering.{Ordering}
use Rattle.std.proofs.lemmas.Bool.{leb-true, leb-false, not-true, and_parts}
use Rattle.std.proofs.lemmas.List.{take_all}
use Rattle.std.proofs.lemmas.List.Elements.{All-nil, All-cons, All-weaker, All-filter, All-contains, Contains-append_right}
use Rattle.std.proofs.lemmas.Map.Lookups.{CmpEqualImpliesEq}
use Rattle.silo_address.specs.Grain.{Grain, grain_cmp}
use Rattle.silo_address.specs.declared.Entry.{Entry}
use Rattle.silo_address.proofs.Order.{grain_cmp_total, grain_cmp_exact}
use Rattle.ring_range.specs.Range.{Range, holds}
use Rattle.hash_ring.specs.declared.Hashing.{Hashing}
use Rattle.hash_ring.specs.Hash.{hash_grain}
use Rattle.directory_protocol.specs.World as protocol
use Rattle.directory_protocol.proofs.Changes.{grain_cases}
use Rattle.directory_rules.specs.declared.held.Held.{Held}
use Rattle.directory_rules.specs.declared.held.Phase.{Phase}
use Rattle.directory_rules.specs.declared.held.Phase.TheVariants as phase
use Rattle.directory_rules.specs.State.{Table, Host}
use Rattle.directory_rules.specs.Table.{entry_at, table_of}
use Rattle.directory_rules.specs.Standing.{standing_cmp, stands_behind, rise_behind, last_grain}
use Rattle.directory_rules.specs.Host.{entry_of, held_of, is_firm, firm_entries, firm_behind}
use Rattle.directory_rules.proofs.Cases.{on_bool}
use Rattle.directory_rules.proofs.Standings.{standing_total, standing_exact, put_as_they_stand, rise_filtered, rise_parts}
use Rattle.directory_facts.proofs.Lookups.{found_put, found_beside_put, absent_found, lookup_first, lookup_later}
use Rattle.directory_facts.proofs.StandingEntries.{found_filtered, found_taken, lookup_alike, own_as_they_stand, as_they_stand_rise}
use Rattle.directory_headline.specs.Shown.{held_in, held_as}
use Rattle.directory_headline.proofs.TableEntries.{table_again}
use Rattle.directory_headline.proofs.KeptEntries.{or_nothing}

-- entries are found among themselves
pub found_themselves : (es : List Entry) → All (λ e. is_some (entry_at e.grain (table_of es)) ≡ true) es
found_themselves [] = All-nil (λ (e : Entry). is_some (entry_at e.grain []) ≡ true)
found_themselves (x ∷ xs) =
    All-cons (λ (e : Entry). is_some (entry_at e.grain (table_of (x ∷ xs))) ≡ true) x xs
    (ap (λ (o : Option Entry). is_some o) (lookup_first grain_cmp grain_cmp_total x.grain x (table_of xs)))
    (All-weaker (λ (e : Entry). is_some (entry_at e.grain (table_of xs)) ≡ true)
    (λ (e : Entry). is_some (entry_at e.grain (table_of (x ∷ xs))) ≡ true)
    (λ e there. on_bool (λ b. is_some (cond b (Some x) (entry_at e.grain (table_of xs))) ≡ true) (is_at (grain_cmp e.grain) x.grain)
    (λ t. refl) (λ f. there)) xs (found_themselves xs))

-- behind the first of entries that rise, there is the next one
pub next_stands : (hash : Grain → ℕ) (ranges : List Range) (n : ℕ) (after : Option Grain) (es : List Entry)
    → rise_behind hash ranges after es ≡ true → n < length es
    → (e : Entry) × Contains es e × (stands_behind hash ranges (last_grain after (take n es)) e.grain ≡ true)
next_stands hash ranges n after [] rises below = absurd (omega (arith, below))
next_stands hash ranges zero after (e ∷ es) rises below = (e, (0, omega arith, refl), (rise_parts hash ranges after e es rises).0)
next_stands hash ranges (suc n) after (e ∷ es) rises below =
    let rest = next_stands hash ranges n (Some e.grain) es (rise_parts hash ranges after e es rises).1 (omega (arith, below)) in
    (rest.0, Contains-append_right (e ∷ []) es rest.0 rest.1, rest.2)

module _ (hashing : Hashing) (host : Host) (range : Range) where
  abbrev order : Grain → Grain → Ordering
  order = standing_cmp (hash_grain hashing) (range ∷ [])

  -- what stands in a table in that order
  abbrev at : Grain → Table → Option Entry
  at grain table = lookup (is_at (order grain)) table

  abbrev put_all : Table → List Entry → Table
  put_all table entries = put_as_they_stand (hash_grain hashing) (range ∷ []) table entries

  total : IsTotalOrder order
  total = standing_total (hash_grain hashing) (range ∷ [])

  exact : CmpEqualImpliesEq order
  exact = standing_exact (hash_grain hashing) (range ∷ [])

  abbrev test : (Grain × Held) → Bool
  test e = is_firm e.1.phase && holds range (hash_grain hashing e.0)

  abbrev chosen : Grain → Option Held → Option Entry
  chosen grain None = None
  chosen grain (Some held) = if test (grain, held) then Some (entry_of host grain held) else None

  abbrev entries : List (Grain × Held) → List Entry
  entries held = map (λ e. entry_of host e.0 e.1) (filter test held)

  found_firm : (grain : Grain) (held : List (Grain × Held)) (table : Table) → AllPairs (λ e later. e.0 ≢ later.0) held
      → at grain (put_all table (entries held)) ≡ option_or (chosen grain (lookup (is_at (grain_cmp grain)) held)) (at grain table)
  found_firm grain [] table once = refl
  found_firm grain (x ∷ xs) table once =
      elim (grain_cases grain x.0) [
        | inl same ↦
            ap (λ g. at g (put_all table (entries (x ∷ xs)))) same
            ∙ here (λ g t. found_firm g xs t (λ i j d lt below. once (suc i) (suc j) d (omega (arith, lt)) (omega (arith, below))))
            (test x) refl
            ∙ ap (λ o. option_or (chosen x.0 o) (at x.0 table)) (sym (lookup_first grain_cmp grain_cmp_total x.0 x.1 xs))
            ∙ ap (λ g. option_or (chosen g (lookup (is_at (grain_cmp g)) (x ∷ xs))) (at g table)) (sym same)
        | inr apart ↦
            there (λ g t. found_firm g xs t (λ i j d lt below. once (suc i) (suc j) d (omega (arith, lt)) (omega (arith, below)))) apart
            (test x) refl ∙ ap (λ o. option_or (chosen grain o) (at grain table))
            (sym (lookup_later grain_cmp grain_cmp_exact grain x.0 x.1 xs apart))
      ]
    where
      none : lookup (is_at (grain_cmp x.0)) xs ≡ None
      none = absent_found grain_cmp grain_cmp_exact x.0 xs (λ i d below. once 0 (suc i) d (omega arith) (omega (arith, below)))

      here : ((g : Grain) (t : Table) → at g (put_all t (entries xs)) ≡ option_or (chosen g (lookup (is_at (grain_cmp g)) xs)) (at g t))
          → (b : Bool) → test x ≡ b
          → at x.0 (put_all table (map (λ e. entry_of host e.0 e.1) (cond b (x ∷ filter test xs) (filter test xs))))
          ≡ option_or (chosen x.0 (Some x.1)) (at x.0 table)
      here later true is =
          later x.0 (insert_entry order table x.0 (entry_of host x.0 x.1))
          ∙ ap (λ o. option_or (chosen x.0 o) (at x.0 (insert_entry order table x.0 (entry_of host x.0 x.1)))) none
          ∙ found_put order total exact x.0 (entry_of host x.0 x.1) table
          ∙ ap (λ b. option_or (if b then Some (entry_of host x.0 x.1) else None) (at x.0 table)) (sym is)
      here later false is =
          later x.0 table ∙ ap (λ o. option_or (chosen x.0 o) (at x.0 table)) none
          ∙ ap (λ b. option_or (if b then Some (entry_of host x.0 x.1) else None) (at x.0 table)) (sym is)

      there : ((g : Grain) (t : Table) → at g (put_all t (entries xs)) ≡ option_or (chosen g (lookup (is_at (grain_cmp g)) xs)) (at g t))
          → grain ≢ x.0 → (b : Bool) → test x ≡ b
          → at grain (put_all table (map (λ e. entry_of host e.0 e.1) (cond b (x ∷ filter test xs) (filter test xs))))
          ≡ option_or (chosen grain (lookup (is_at (grain_cmp grain)) xs)) (at grain table)
      there later apart true is =
          later grain (insert_entry order table x.0 (entry_of host x.0 x.1))
          ∙ ap (option_or (chosen grain (lookup (is_at (grain_cmp grain)) xs)))
          (found_beside_put order total exact x.0 (entry_of host x.0 x.1) table grain apart)
      there later apart false is = later grain table

  count_by_phase : (its : Phase) (count : ℕ) (previous : _) (grain : Grain) → holds range (hash_grain hashing grain) ≡ true
      → protocol.firm_count (Some (held_in its count previous)) ≡ option_map (λ (e : Entry). e.activation.count)
      (chosen grain (Some (record { count = count; phase = its; previous = previous })))
  count_by_phase (phase.Asking n) count previous grain lies = refl
  count_by_phase phase.Firm count previous grain lies =
      ap (λ b. option_map (λ (e : Entry). e.activation.count)
      (if b then Some (entry_of host grain (record { count = count; phase = phase.Firm; previous = previous })) else None)) (sym lies)
  count_by_phase (phase.Closing n) count previous grain lies = refl

  count_held : (grain : Grain) (o : Option Held) → holds range (hash_grain hashing grain) ≡ true
      → protocol.firm_count (option_map held_as o) ≡ option_map (λ (e : Entry). e.activation.count) (chosen grain o)
  count_held grain None lies = refl
  count_held grain (Some held) lies = count_by_phase held.phase held.count held.previous grain lies

  -- the entry of a grain among all that are firm there
  firm_found : (grain : Grain) → AllPairs (λ e later. e.0 ≢ later.0) host.held
      → entry_at grain (table_of (firm_entries hashing host range)) ≡ chosen grain (held_of host grain)
  firm_found grain once =
      ap (entry_at grain) (table_again (put_all [] (entries host.held))
      (own_as_they_stand (hash_grain hashing) (range ∷ []) (entries host.held) [] (All-nil (λ (x : Grain × Entry). x.0 ≡ x.1.grain))))
      ∙ sym (lookup_alike (hash_grain hashing) (range ∷ []) grain (put_all [] (entries host.held)))
      ∙ found_firm grain host.held [] once ∙ or_nothing (chosen grain (held_of host grain))

  -- and among the first of them behind a grain, of a grain that stands behind that, and not behind the last of these unless they are all
  told_found : (most : ℕ) (after : Option Grain) (grain : Grain)
      → stands_behind (hash_grain hashing) (range ∷ []) after grain ≡ true
      → (nat_le (length (firm_behind hashing host range after)) most
      || not (stands_behind (hash_grain hashing) (range ∷ []) (last_grain after (take most (firm_behind hashing host range after))) grain)) ≡ true
      → entry_at grain (table_of (take most (firm_behind hashing host range after)))
      ≡ entry_at grain (table_of (firm_entries hashing host range))
  told_found most after grain behind upto =
      first_found ∙ found_filtered (λ g. stands_behind (hash_grain hashing) (range ∷ []) after g) grain (firm_entries hashing host range) behind
    where
      its : List Entry
      its = firm_behind hashing host range after

      rises : rise_behind (hash_grain hashing) (range ∷ []) after its ≡ true
      rises = rise_filtered (hash_grain hashing) (range ∷ []) after None (firm_entries hashing host range)
          (as_they_stand_rise (hash_grain hashing) (range ∷ []) (entries host.held))

      first_found : entry_at grain (table_of (take most its)) ≡ entry_at grain (table_of its)
      first_found =
          on_bool (λ b. nat_le (length its) most ≡ b → (b || not (stands_behind (hash_grain hashing) (range ∷ [])
          (last_grain after (take most its)) grain)) ≡ true → entry_at grain (table_of (take most its)) ≡ entry_at grain (table_of its))
          (nat_le (length its) most)
          (λ t all is. ap (λ l. entry_at grain (table_of l)) (take_all most its (leb-true (length its) most all)))
          (λ f some is. found_taken (hash_grain hashing) (range ∷ []) most after grain its rises (not-true _ is))
          refl upto

  -- what is told of a grain of the range is the count of its firm activation
  pub firm_reported : (most : ℕ) (after : Option Grain) (grain : Grain) → AllPairs (λ e later. e.0 ≢ later.0) host.held
      → holds range (hash_grain hashing grain) ≡ true
      → stands_behind (hash_grain hashing) (range ∷ []) after grain ≡ true
      → (nat_le (length (firm_behind hashing host range after)) most
      || not (stands_behind (hash_grain hashing) (range ∷ []) (last_grain after (take most (firm_behind hashing host range after))) grain)) ≡ true
      → protocol.firm_count (option_map held_as (held_of host grain)) ≡ option_map (λ (e : Entry). e.activation.count)
      (entry_at grain (table_of (take most (firm_behind hashing host range after))))
  firm_reported most after grain once lies behind upto =
      count_held grain (held_of host grain) lies
      ∙ ap (option_map (λ (e : Entry). e.activation.count)) (sym (told_found most after grain behind upto ∙ firm_found grain once))

  -- each entry that is firm there is that of a firm activation, in the range
  abbrev pub IsFirmThere : Entry → Type 0
  IsFirmThere e = (holds range (hash_grain hashing e.grain) ≡ true)
      × ((count : ℕ) × (protocol.firm_count (option_map held_as (held_of host e.grain)) ≡ Some count))

  all_firm : AllPairs (λ e later. e.0 ≢ later.0) host.held → All IsFirmThere (firm_entries hashing host range)
  all_firm once = λ k d below.
      let e = slice_index_or (firm_entries hashing host range) k d in
      by e.grain (held_of host e.grain)
      (ap (λ (o : Option Entry). is_some o) (sym (firm_found e.grain once)) ∙ found_themselves (firm_entries hashing host range) k d below)
    where
      by : (grain : Grain) (o : Option Held) → is_some (chosen grain o) ≡ true
          → (holds range (hash_grain hashing grain) ≡ true) × ((count : ℕ) × (protocol.firm_count (option_map held_as o) ≡ Some count))
      by grain None some = absurd (cc (some))
      by grain (Some held) some =
          on_bool (λ b. test (grain, held) ≡ b → is_some (if b then Some (entry_of host grain held) else None) ≡ true
          → (holds range (hash_grain hashing grain) ≡ true)
          × ((count : ℕ) × (protocol.firm_count (option_map held_as (Some held)) ≡ Some count))) (test (grain, held))
          (λ t is so.
          let parts = and_parts (is_firm held.phase) (holds range (hash_grain hashing grain)) is in (
            parts.1,
            (
              held.count,
              count_held grain (Some held) parts.1
                  ∙ ap (λ b. option_map (λ (e : Entry). e.activation.count) (if b then Some (entry_of host grain held) else None)) is,
            ),
          ))
          (λ f not so. absurd (cc (so))) refl some

  -- where more are firm behind a grain than are told, another stands behind those
  pub more_firm : (most : ℕ) (after : Option Grain) → AllPairs (λ e later. e.0 ≢ later.0) host.held
      → nat_le (length (firm_behind hashing host range after)) most ≡ false
      → (e : Entry) × IsFirmThere e
      × (stands_behind (hash_grain hashing) (range ∷ []) (last_grain after (take most (firm_behind hashing host range after))) e.grain ≡ true)
  more_firm most after once not =
      let its = firm_behind hashing host range after in
      let rises = rise_filtered (hash_grain hashing) (range ∷ []) after None (firm_entries hashing host range)
      (as_they_stand_rise (hash_grain hashing) (range ∷ []) (entries host.held)) in
      let over = leb-false (length its) most not in
      let next = next_stands (hash_grain hashing) (range ∷ []) most after its rises (omega (arith, over)) in (
        next.0,
        All-contains IsFirmThere its next.0 (All-filter (λ (e : Entry). stands_behind (hash_grain hashing) (range ∷ []) after e.grain) IsFirmThere
            (firm_entries hashing host range) (all_firm once)) next.1,
        next.2,
      )
