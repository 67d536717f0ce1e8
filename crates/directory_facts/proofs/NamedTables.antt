-- Tables, snapshots and reports name what their entries named: nothing makes an entry of another grain or activation.
use Rattle.std.proofs.Common.{◌≡◌, refl, sym, subst, ℕ, ◌+◌, ◌*◌, List, [], ◌∷◌, ◌++◌, length}
use Rattle.std.specs.Prelude.{⊤, Bool, true, false, cond, not, is_some, nat_lt, ◌==◌, ◌&&◌, All, Option, Some, None, find, flat_map, fold, drop}
use Rattle.std.specs.Cmp.Lexicographic.{pointwise}
use Rattle.std.specs.BTreeMap.{is_at}
use Rattle.std.proofs.lemmas.List.Elements.{All-nil, All-head, All-tail, All-append, All-map, All-filter, All-take, All-drop}
use Rattle.silo_address.specs.Silo.{Silo}
use Rattle.silo_address.specs.Grain.{Grain, grain_cmp}
use Rattle.silo_address.specs.Activation.{activation_eq}
use Rattle.silo_address.specs.declared.ActivationId.{ActivationId}
use Rattle.silo_address.specs.declared.Entry.{Entry}
use Rattle.silo_address.proofs.Order.{grain_cmp_exact}
use Rattle.membership_view.specs.View.{ViewValue}
use Rattle.ring_range.specs.Range.{Range, range_eq}
use Rattle.hash_ring.specs.declared.Hashing.{Hashing}
use Rattle.directory_rules.specs.declared.act.Act.{Act}
use Rattle.directory_rules.specs.declared.act.Act.TheVariants.{Register, Deregister, Find}
use Rattle.directory_rules.specs.declared.reply.Reply.{Reply}
use Rattle.directory_rules.specs.declared.reply.Reply.TheVariants.{Registered, Taken, Removed, Absent}
use Rattle.directory_rules.specs.Settings.{page_size}
use Rattle.directory_rules.specs.State.{Table, Piece, Snapshot, Page, Gathering, Report, Recovery}
use Rattle.directory_rules.specs.Table.{entry_at, with_entry, without_grain, entries_of, table_of}
use Rattle.directory_rules.specs.Sight.{is_kept, all_entries, kept_entries}
use Rattle.directory_rules.specs.Snapshot.{digest_of, page_count, page_of, page_from, shelf_answer, is_snapshot, Hands_page, Has_none, Is_behind}
use Rattle.directory_rules.specs.Gatherings.{Gathered, Wants_page, Has_all, Refuses, new_gathering, with_page, is_in_turn, completed, gathered}
use Rattle.directory_rules.specs.Recovery.{Recovered, Has_more, Awaits_more, Has_union, Rejects, with_reported, recovered}
use Rattle.directory_rules.specs.Answer.{Turned, turned, registered_over, deregistered_from, is_previous}
use Rattle.directory_rules.proofs.Cases.{on_bool}
use Rattle.directory_facts.specs.Named.{IsNamed, AreNamed}
use Rattle.directory_facts.proofs.Entries.{all_put, all_removed}
use Rattle.directory_facts.proofs.Collected.{TakenSo, taken_so}

abbrev pub AllNamed : List Entry → Type 0
AllNamed entries = All IsNamed entries

-- ---- tables
pub entries_named : (table : Table) → AreNamed table → AllNamed (entries_of table)
entries_named table named = All-map IsNamed (λ (e : Grain × Entry). e.1) table named

pub table_named : (entries : List Entry) → AllNamed entries → AreNamed (table_of entries)
table_named entries named = All-map (λ (e : Grain × Entry). IsNamed e.1) (λ (entry : Entry). (entry.grain, entry)) entries named

put_named : (table : Table) (entry : Entry) → AreNamed table → IsNamed entry → AreNamed (with_entry table entry)
put_named table entry named is = all_put grain_cmp grain_cmp_exact (λ (e : Grain × Entry). IsNamed e.1) entry.grain entry table named is

pub folded_named : (entries : List Entry) (table : Table) → AllNamed entries → AreNamed table → AreNamed (fold with_entry table entries)
folded_named [] table new named = named
folded_named (entry ∷ entries) table new named =
    folded_named entries (with_entry table entry) (All-tail IsNamed entry entries new)
    (put_named table entry named (All-head IsNamed entry entries new))

-- ---- what a sight keeps
all_named : (pieces : List (ℕ × Piece)) → All (λ e. AreNamed e.1.entries) pieces → AllNamed (flat_map (λ e. entries_of e.1.entries) pieces)
all_named [] named = All-nil IsNamed
all_named (e ∷ es) named =
    All-append IsNamed (entries_of e.1.entries) (flat_map (λ x. entries_of x.1.entries) es)
    (entries_named e.1.entries (All-head (λ (x : ℕ × Piece). AreNamed x.1.entries) e es named))
    (all_named es (All-tail (λ (x : ℕ × Piece). AreNamed x.1.entries) e es named))

pub kept_named : (hashing : Hashing) (view : ViewValue) (pieces : List (ℕ × Piece)) (range : Range) → All (λ e. AreNamed e.1.entries) pieces
    → AreNamed (kept_entries hashing view pieces range)
kept_named hashing view pieces range named =
    All-filter (λ e. is_kept hashing view range e.1) (λ (e : Grain × Entry). IsNamed e.1) (all_entries pieces)
    (folded_named (flat_map (λ e. entries_of e.1.entries) pieces) [] (all_named pieces named)
    (All-nil (λ (e : Grain × Entry). IsNamed e.1)))

-- ---- pages
found_named : (test : Snapshot → Bool) (shelf : List Snapshot) (snapshot : Snapshot) → All (λ s. AllNamed s.entries) shelf
    → find test shelf ≡ Some snapshot → AllNamed snapshot.entries
found_named test [] snapshot named found = absurd (cc (found))
found_named test (s ∷ ss) snapshot named found =
    by (test s) found (λ later. found_named test ss snapshot (All-tail (λ (x : Snapshot). AllNamed x.entries) s ss named) later)
  where
    by : (b : Bool) → cond b (Some s) (find test ss) ≡ Some snapshot → (find test ss ≡ Some snapshot → AllNamed snapshot.entries)
        → AllNamed snapshot.entries
    by true here rest =
        let same : s ≡ snapshot = cc (here) in subst (λ (x : Snapshot). AllNamed x.entries) same
        (All-head (λ (x : Snapshot). AllNamed x.entries) s ss named)
    by false there rest = rest there

page_named : (found : Option Snapshot) (number : ℕ) (page : Page)
    → ((snapshot : Snapshot) → found ≡ Some snapshot → AllNamed snapshot.entries) → page_from found number ≡ Hands_page page
    → AllNamed page.entries
page_named None number page each is = absurd (cc (is))
page_named (Some snapshot) number page each is =
    on_bool (λ b. cond b (Hands_page (page_of snapshot number)) Has_none ≡ Hands_page page → AllNamed page.entries)
    (nat_lt number (page_count (length snapshot.entries)))
    (λ t so. let same : page_of snapshot number ≡ page = cc (so) in
    subst (λ (p : Page). AllNamed p.entries) same (All-take IsNamed page_size (drop (number * page_size) snapshot.entries)
    (All-drop IsNamed (number * page_size) snapshot.entries (each snapshot refl))))
    (λ f so. absurd (cc (so))) is

pub handed_named : (shelf : List Snapshot) (seen version : ℕ) (range : Range) (asker : Silo) (number : ℕ) (page : Page)
    → All (λ s. AllNamed s.entries) shelf → shelf_answer shelf seen version range asker number ≡ Hands_page page
    → AllNamed page.entries
handed_named shelf seen version range asker number page named is =
    on_bool (λ b. cond b Is_behind (page_from (find (is_snapshot version range asker) shelf) number) ≡ Hands_page page
    → AllNamed page.entries) (nat_lt seen version)
    (λ t so. absurd (cc (so)))
    (λ f so. page_named (find (is_snapshot version range asker) shelf) number page
    (λ snapshot found. found_named (is_snapshot version range asker) shelf snapshot named found) so) is

-- what comes of a page
abbrev pub GatheredNamed : Gathered → Type 0
GatheredNamed (Wants_page gathering) = AllNamed gathering.entries
GatheredNamed (Has_all entries) = AllNamed entries
GatheredNamed (Refuses number gathering) = AllNamed gathering.entries

pub gathered_named : (gathering : Gathering) (page : Page) → AllNamed gathering.entries → AllNamed page.entries
    → GatheredNamed (gathered gathering page)
gathered_named gathering page before more =
    let all = All-append IsNamed gathering.entries page.entries before more in
    on_bool (λ b. GatheredNamed (cond (not b) (Refuses 703 gathering)
    (cond (not turn) (Refuses 702 gathering) (cond later (Wants_page (with_page gathering page)) (completed gathering page)))))
    ((page.version == gathering.version) && range_eq page.range gathering.range)
    (λ t. on_bool (λ b. GatheredNamed (cond (not b) (Refuses 702 gathering)
    (cond later (Wants_page (with_page gathering page)) (completed gathering page)))) turn
    (λ u. on_bool (λ b. GatheredNamed (cond b (Wants_page (with_page gathering page)) (completed gathering page))) later (λ v. all)
    (λ v. on_bool (λ b. GatheredNamed (cond b (Has_all (gathering.entries ++ page.entries))
    (Refuses 701 (new_gathering gathering.version gathering.range))))
    (pointwise ◌==◌ (digest_of (gathering.entries ++ page.entries)) page.digest)
    (λ w. all) (λ w. All-nil IsNamed)))
    (λ u. before))
    (λ f. before)
  where
    turn : Bool
    turn = is_in_turn gathering page

    later : Bool
    later = nat_lt (page.page + 1) page.pages

-- ---- reports
reported_named : (entries : List Entry) (table : Table) → AllNamed entries → AreNamed table → AreNamed (fold with_reported table entries)
reported_named [] table new named = named
reported_named (entry ∷ entries) table new named =
    reported_named entries (with_reported table entry) (All-tail IsNamed entry entries new)
    (on_bool (λ b. AreNamed (cond b table (with_entry table entry))) (is_some (entry_at entry.grain table)) (λ t. named)
    (λ f. put_named table entry named (All-head IsNamed entry entries new)))

abbrev pub RecoveredNamed : Recovered → Type 0
RecoveredNamed (Has_more recovery) = AreNamed recovery.gathered
RecoveredNamed (Awaits_more recovery) = AreNamed recovery.gathered
RecoveredNamed (Has_union table) = AreNamed table
RecoveredNamed (Rejects number) = ⊤

pub recovered_named : (recovery : Recovery) (report : Report) → AreNamed recovery.gathered → AllNamed report.entries
    → RecoveredNamed (recovered recovery report)
recovered_named recovery report before more = named (recovered recovery report) (taken_so recovery report)
  where
    with_it : AreNamed (fold with_reported recovery.gathered report.entries)
    with_it = reported_named report.entries recovery.gathered more before

    named : (result : Recovered) → TakenSo recovery report result → RecoveredNamed result
    named (Has_more next) so = subst (λ (r : Recovery). AreNamed r.gathered) (sym so.2) with_it
    named (Awaits_more next) so = subst (λ (r : Recovery). AreNamed r.gathered) (sym so.2) with_it
    named (Has_union table) so = subst AreNamed (sym so.3) with_it
    named (Rejects number) so = tt

-- ---- requests
abbrev pub NamesAct : Act → Type 0
NamesAct (Register entry previous) = IsNamed entry
NamesAct (Deregister entry) = ⊤
NamesAct (Find grain) = ⊤

abbrev turn : Reply → Table → Turned
turn reply table = record { reply = reply; table = table }

registered_named : (there : Option Entry) (entry : Entry) (previous : Option ActivationId) (table : Table) → AreNamed table → IsNamed entry
    → AreNamed (registered_over there entry previous table).table
registered_named None entry previous table named is = put_named table entry named is
registered_named (Some there) entry previous table named is =
    on_bool (λ b. AreNamed (cond b (turn (Registered entry) table)
    (cond (is_previous previous there) (turn (Registered entry) (with_entry table entry)) (turn (Taken there) table))).table)
    (activation_eq there.activation entry.activation)
    (λ t. named)
    (λ f. on_bool (λ b. AreNamed (cond b (turn (Registered entry) (with_entry table entry)) (turn (Taken there) table)).table)
    (is_previous previous there) (λ t. put_named table entry named is) (λ g. named))

deregistered_named : (there : Option Entry) (entry : Entry) (table : Table) → AreNamed table
    → AreNamed (deregistered_from there entry table).table
deregistered_named None entry table named = named
deregistered_named (Some there) entry table named =
    on_bool (λ b. AreNamed (cond b (turn Removed (without_grain entry.grain table)) (turn Absent table)).table)
    (activation_eq there.activation entry.activation)
    (λ t. all_removed (λ (e : Grain × Entry). IsNamed e.1) (is_at (grain_cmp entry.grain)) table named) (λ f. named)

pub turned_named : (act : Act) (table : Table) → AreNamed table → NamesAct act → AreNamed (turned act table).table
turned_named (Register entry previous) table named is = registered_named (entry_at entry.grain table) entry previous table named is
turned_named (Deregister entry) table named is = deregistered_named (entry_at entry.grain table) entry table named
turned_named (Find grain) table named is = named
