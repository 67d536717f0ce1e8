-- What comes of a page and of a report, and that what a node has of snapshots and reports is hashed into their ranges.
use Rattle.std.proofs.Common.{◌≡◌, refl, sym, ap, subst, ℕ, ◌+◌, List, [], ◌∷◌, ◌++◌, ◌≢◌, ◌⊎◌, inl, inr, arith}
use Rattle.std.specs.Prelude.{⊤, Bool, true, cond, not, nat_lt, ◌==◌, ◌&&◌, ◌||◌, All, Option, Some, None, false, length, fold}
use Rattle.std.specs.Cmp.Lexicographic.{pointwise}
use Rattle.std.specs.Map.{lookup}
use Rattle.std.specs.Option.{unwrap_or, option_eq}
use Rattle.std.proofs.lemmas.List.Elements.{All-nil, All-head, All-tail, All-append}
use Rattle.std.proofs.lemmas.Bool.{eqb-true}
use Rattle.texts.proofs.Decided.{both}
use Rattle.silo_address.specs.Silo.{Silo}
use Rattle.silo_address.specs.Grain.{Grain, grain_eq}
use Rattle.silo_address.specs.declared.Entry.{Entry}
use Rattle.silo_address.proofs.Same.{Decides-grain}
use Rattle.ring_range.specs.Range.{Range, holds, range_eq}
use Rattle.ring_range.proofs.Same.{Decides-range}
use Rattle.hash_ring.specs.declared.Hashing.{Hashing}
use Rattle.hash_ring.specs.Hash.{hash_grain}
use Rattle.directory_rules.specs.State.{Page, Gathering, Report, Recovery}
use Rattle.directory_rules.specs.Snapshot.{digest_of}
use Rattle.directory_rules.specs.Table.{lie_in}
use Rattle.directory_rules.specs.Gatherings.{Gathered, Wants_page, Has_all, Refuses, new_gathering, with_page, is_in_turn, completed, gathered, agrees, is_entry_count}
use Rattle.directory_rules.specs.Recovery.{Recovered, Has_more, Awaits_more, Has_union, Rejects, with_reported, with_more, with_last, told_by, is_among, awaits_still, recovered}
use Rattle.directory_rules.proofs.Cases.{on_bool}
use Rattle.directory_facts.specs.Pieces.{IsHashedInto, IsTableOf, IsGathering, IsRecovery}
use Rattle.directory_facts.proofs.Tables.{all_from, table_union}

-- what is there, or else begins anew
pub found_or : {X : Type 0} (P : X → Type 0) (test : ℕ → Bool) (other : X) (es : List (ℕ × X)) → All (λ e. P e.1) es → P other
    → P (unwrap_or (lookup test es) other)
found_or P test other [] all new = new
found_or P test other (e ∷ es) all new =
    on_bool (λ b. P (unwrap_or (cond b (Some e.1) (lookup test es)) other)) (test e.0)
    (λ t. All-head (λ x. P x.1) e es all) (λ f. found_or P test other es (All-tail (λ x. P x.1) e es all) new)

-- ---- pages
-- what the tests of a page say
pub record IsInTurn (gathering : Gathering) (page : Page) : Type 0 where
  pub version : page.version ≡ gathering.version
  pub range : page.range ≡ gathering.range
  pub next : page.page ≡ gathering.next
  pub below : nat_lt page.page page.pages ≡ true
  pub agrees : agrees gathering.whole page ≡ true

-- what comes of it
abbrev pub GatheredSo : Gathering → Page → Gathered → Type 0
GatheredSo gathering page (Wants_page more) = IsInTurn gathering page × (more ≡ with_page gathering page)
GatheredSo gathering page (Has_all entries) =
    IsInTurn gathering page × (entries ≡ gathering.entries ++ page.entries) × (nat_lt (page.page + 1) page.pages ≡ false)
GatheredSo gathering page (Refuses number left) =
    ((number ≢ 701) × (left ≡ gathering)) ⊎ (left ≡ new_gathering gathering.version gathering.range)

in_turn_is : (gathering : Gathering) (page : Page) → ((page.version == gathering.version) && range_eq page.range gathering.range) ≡ true
    → is_in_turn gathering page ≡ true → IsInTurn gathering page
in_turn_is gathering page same turn =
    let so = both (page.version == gathering.version) (range_eq page.range gathering.range) same in
    let counted = is_entry_count page.page page.pages (length page.entries) in
    let three = both ((page.page == gathering.next) && nat_lt page.page page.pages && agrees gathering.whole page) counted turn in
    let two = both ((page.page == gathering.next) && nat_lt page.page page.pages) (agrees gathering.whole page) three.0 in
    let one = both (page.page == gathering.next) (nat_lt page.page page.pages) two.0 in
    record {
      version = eqb-true page.version gathering.version so.0;
      range = (Decides-range page.range gathering.range).0 so.1;
      next = eqb-true page.page gathering.next one.0;
      below = one.1;
      agrees = two.1;
    }

pub gathered_so : (gathering : Gathering) (page : Page) → GatheredSo gathering page (gathered gathering page)
gathered_so gathering page =
    on_bool (λ b. same ≡ b → So (cond (not b) (Refuses 703 gathering)
    (cond (not turn) (Refuses 702 gathering) (cond more (Wants_page (with_page gathering page)) (completed gathering page))))) same
    (λ t is. on_bool (λ b. turn ≡ b → So (cond (not b) (Refuses 702 gathering)
    (cond more (Wants_page (with_page gathering page)) (completed gathering page)))) turn
    (λ t in_turn. on_bool (λ b. more ≡ b → So (cond b (Wants_page (with_page gathering page)) (completed gathering page))) more
    (λ t it. (in_turn_is gathering page is in_turn, refl))
    (λ u it.
    on_bool (λ b. So (cond b (Has_all (gathering.entries ++ page.entries)) (Refuses 701 (new_gathering gathering.version gathering.range))))
    (pointwise ◌==◌ (digest_of (gathering.entries ++ page.entries)) page.digest)
    (λ t. (in_turn_is gathering page is in_turn, refl, it)) (λ u. inr refl)) refl)
    (λ u not_turn. inl (λ same. omega (arith, same), refl)) refl)
    (λ u not_same. inl (λ same. omega (arith, same), refl)) refl
  where
    same : Bool
    same = (page.version == gathering.version) && range_eq page.range gathering.range

    turn : Bool
    turn = is_in_turn gathering page

    more : Bool
    more = nat_lt (page.page + 1) page.pages

    So : Gathered → Type 0
    So result = GatheredSo gathering page result

-- so it is hashed into the range
abbrev pub GatheredInto : Hashing → Range → Gathering → Page → Gathered → Type 0
GatheredInto hashing range before page (Wants_page gathering) = IsGathering hashing gathering
GatheredInto hashing range before page (Has_all entries) =
    (entries ≡ before.entries ++ page.entries) × All (IsHashedInto hashing range) entries
GatheredInto hashing range before page (Refuses number gathering) = IsGathering hashing gathering

pub gathered_into : (hashing : Hashing) (gathering : Gathering) (page : Page) → IsGathering hashing gathering
    → lie_in hashing page.range page.entries ≡ true → GatheredInto hashing page.range gathering page (gathered gathering page)
gathered_into hashing gathering page is lie = into (gathered gathering page) (gathered_so gathering page)
  where
    all : IsInTurn gathering page → All (IsHashedInto hashing gathering.range) (gathering.entries ++ page.entries)
    all turn =
        All-append (IsHashedInto hashing gathering.range) gathering.entries page.entries is
        (subst (λ range. All (IsHashedInto hashing range) page.entries) turn.range
        (all_from (λ (e : Entry). holds page.range (hash_grain hashing e.grain)) page.entries lie))

    into : (result : Gathered) → GatheredSo gathering page result → GatheredInto hashing page.range gathering page result
    into (Wants_page more) so = subst (IsGathering hashing) (sym so.1) (all so.0)
    into (Has_all entries) so = (
      so.1,
      subst (All (IsHashedInto hashing page.range)) (sym so.1)
          (subst (λ range. All (IsHashedInto hashing range) (gathering.entries ++ page.entries)) (sym so.0.range) (all so.0)),
    )
    into (Refuses number left) (inl kept) = subst (IsGathering hashing) (sym kept.1) is
    into (Refuses number left) (inr anew) = subst (IsGathering hashing) (sym anew) (All-nil (IsHashedInto hashing gathering.range))

-- ---- reports
-- what the tests of a report say
pub record IsTaken (recovery : Recovery) (report : Report) : Type 0 where
  pub version : report.version ≡ recovery.version
  pub range : report.range ≡ recovery.range
  pub awaited : is_among report.silo recovery.awaiting ≡ true
  pub goes_on : report.after ≡ told_by report.silo recovery

-- what comes of it, if it isn't refused
abbrev pub TakenSo : Recovery → Report → Recovered → Type 0
TakenSo recovery report (Has_more next) = IsTaken recovery report × (report.last ≡ false) × (next ≡ with_more recovery report)
TakenSo recovery report (Awaits_more next) = IsTaken recovery report × (report.last ≡ true) × (next ≡ with_last recovery report)
TakenSo recovery report (Has_union table) =
    IsTaken recovery report × (report.last ≡ true) × ((with_last recovery report).awaiting ≡ []) × (table ≡ (with_last recovery report).gathered)
TakenSo recovery report (Rejects number) = Unit {0}

awaited_if : (a b : Bool) → (a || b) ≡ true → b ≡ false → a ≡ true
awaited_if true b or not = refl
awaited_if false true or not = absurd (cc (not))
awaited_if false false or not = absurd (cc (or))

-- two grains that pass for the same are, or there are none
pub same_option : (one other : Option Grain) → option_eq grain_eq one other ≡ true → one ≡ other
same_option None None is = refl
same_option None (Some grain) is = absurd (cc (is))
same_option (Some grain) None is = absurd (cc (is))
same_option (Some grain) (Some other) is = ap Some ((Decides-grain grain other).0 is)

still_taken : (recovery : Recovery) (report : Report) → IsTaken recovery report → report.last ≡ true → (silos : List Silo)
    → (with_last recovery report).awaiting ≡ silos → TakenSo recovery report (awaits_still silos (with_last recovery report))
still_taken recovery report is last [] none = (is, last, none, refl)
still_taken recovery report is last (silo ∷ silos) some = (is, last, refl)

pub taken_so : (recovery : Recovery) (report : Report) → TakenSo recovery report (recovered recovery report)
taken_so recovery report =
    on_bool (λ b. same ≡ b → So (cond (not b) (Rejects 751) (cond (not known) (Rejects 752) (cond done (Rejects 753)
    (cond (not next) (Rejects 754) (cond report.last last more)))))) same
    (λ t its. on_bool (λ b. known ≡ b → So (cond (not b) (Rejects 752) (cond done (Rejects 753)
    (cond (not next) (Rejects 754) (cond report.last last more))))) known
    (λ t knows. on_bool (λ b. done ≡ b → So (cond b (Rejects 753) (cond (not next) (Rejects 754) (cond report.last last more)))) done
    (λ t is. tt)
    (λ u is. on_bool (λ b. next ≡ b → So (cond (not b) (Rejects 754) (cond report.last last more))) next
    (λ t goes.
    let so = both (report.version == recovery.version) (range_eq report.range recovery.range) its in
    let taken : IsTaken recovery report = record {
      version = eqb-true report.version recovery.version so.0;
      range = (Decides-range report.range recovery.range).0 so.1;
      awaited = awaited_if (is_among report.silo recovery.awaiting) done knows is;
      goes_on = same_option report.after (told_by report.silo recovery) goes;
    } in
    on_bool (λ b. report.last ≡ b → So (cond b last more)) report.last
    (λ t at. still_taken recovery report taken at (with_last recovery report).awaiting refl) (λ u at. (taken, at, refl)) refl)
    (λ u no. tt) refl) refl)
    (λ u is. tt) refl)
    (λ u is. tt) refl
  where
    same : Bool
    same = (report.version == recovery.version) && range_eq report.range recovery.range

    known : Bool
    known = is_among report.silo recovery.awaiting || is_among report.silo recovery.reported

    done : Bool
    done = is_among report.silo recovery.reported

    next : Bool
    next = option_eq grain_eq report.after (told_by report.silo recovery)

    last : Recovered
    last = awaits_still (with_last recovery report).awaiting (with_last recovery report)

    more : Recovered
    more = Has_more (with_more recovery report)

    So : Recovered → Type 0
    So result = TakenSo recovery report result

-- so it is hashed into the range
abbrev pub RecoveredInto : Hashing → Range → Recovered → Type 0
RecoveredInto hashing range (Has_more recovery) = IsRecovery hashing recovery
RecoveredInto hashing range (Awaits_more recovery) = IsRecovery hashing recovery
RecoveredInto hashing range (Has_union table) = IsTableOf hashing range table
RecoveredInto hashing range (Rejects number) = ⊤

pub recovered_into : (hashing : Hashing) (recovery : Recovery) (report : Report) → IsRecovery hashing recovery
    → lie_in hashing report.range report.entries ≡ true → RecoveredInto hashing report.range (recovered recovery report)
recovered_into hashing recovery report is lie = into (recovered recovery report) (taken_so recovery report)
  where
    with_it : IsTaken recovery report → IsTableOf hashing recovery.range (fold with_reported recovery.gathered report.entries)
    with_it taken =
        table_union hashing recovery.range report.entries recovery.gathered is
        (subst (λ range. All (IsHashedInto hashing range) report.entries) taken.range
        (all_from (λ (e : Entry). holds report.range (hash_grain hashing e.grain)) report.entries lie))

    into : (result : Recovered) → TakenSo recovery report result → RecoveredInto hashing report.range result
    into (Has_more next) so = subst (IsRecovery hashing) (sym so.2) (with_it so.0)
    into (Awaits_more next) so = subst (IsRecovery hashing) (sym so.2) (with_it so.0)
    into (Has_union table) so =
        subst (IsTableOf hashing report.range) (sym so.3)
        (subst (λ range. IsTableOf hashing range (with_last recovery report).gathered) (sym so.0.range) (with_it so.0))
    into (Rejects number) so = tt
