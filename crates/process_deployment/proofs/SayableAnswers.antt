-- What a node answers: an entry is one of its tables', or that of the request; a page has a digest; and who still has to report was
-- awaited, and has told up to a grain.
use Rattle.std.proofs.Common.{◌≡◌, ℕ, List, [], ◌∷◌, refl, sym, subst}
use Rattle.std.specs.Prelude.{⊤, Bool, true, false, cond, not, nat_lt, All, IfSome, Option, Some, None, Result, Ok, Err, find, length}
use Rattle.std.specs.Option.{option_map}
use Rattle.std.specs.BTreeMap.{is_at}
use Rattle.std.proofs.lemmas.List.Elements.{All-head, All-tail, All-filter}
use Rattle.silo_address.specs.Silo.{Silo, IsSilo, silo_cmp, silo_eq}
use Rattle.silo_address.specs.Grain.{Grain, IsGrain, grain_cmp}
use Rattle.silo_address.specs.Activation.{activation_eq}
use Rattle.silo_address.specs.declared.ActivationId.{ActivationId}
use Rattle.silo_address.specs.declared.Entry.{Entry}
use Rattle.silo_address.proofs.Order.{silo_cmp_exact}
use Rattle.ring_range.specs.Range.{Range, holds}
use Rattle.directory_rules.specs.declared.act.Act.{Act}
use Rattle.directory_rules.specs.declared.act.Act.TheVariants as act
use Rattle.directory_rules.specs.declared.act.Request.{Request}
use Rattle.directory_rules.specs.declared.reply.Why.{Why}
use Rattle.directory_rules.specs.declared.reply.Reply.{Reply}
use Rattle.directory_rules.specs.declared.reply.Reply.TheVariants as reply
use Rattle.directory_rules.specs.State.{Table, Piece, Holding, Snapshot, Page, Report, Recovery}
use Rattle.directory_rules.specs.Table.{entry_at, with_entry, without_grain}
use Rattle.directory_rules.specs.Snapshot.{page_count, page_of, page_from, is_snapshot, shelf_answer, Hands_page, Has_none, Is_behind}
use Rattle.directory_rules.specs.Recovery.{Recovered, Has_more, Awaits_more, Has_union, Rejects, told_to, with_more, with_last, recovered}
use Rattle.directory_rules.specs.Standing.{last_grain}
use Rattle.directory_rules.specs.Answer.{Turned, is_previous, registered_over, deregistered_from, found_reply, piece_with, serving_piece, served_by, answered_from, answered}
use Rattle.directory_rules.proofs.Cases.{on_bool}
use Rattle.directory_facts.specs.Named.{IsNamed, AreNamed}
use Rattle.directory_facts.proofs.Collected.{TakenSo, taken_so}
use Rattle.directory_facts.proofs.Entries.{all_put, all_removed, found_so}
use Rattle.directory_facts.proofs.NamedTables.{AllNamed, NamesAct}
use Rattle.directory_facts.proofs.Served.{serves}
use Rattle.process_rules.specs.Told.{IsDigest}
use Rattle.process_deployment.proofs.SayableDigests.{is_digest}
use Rattle.process_deployment.proofs.SayableFacts.{Answers, AsksOn}

-- ---- tables
there_named : (grain : Grain) (table : Table) (there : Entry) → AreNamed table → entry_at grain table ≡ Some there → IsNamed there
there_named grain table there named found =
    (found_so (λ (e : Grain × Entry). IsNamed e.1) (is_at (grain_cmp grain)) there table named found).2

abbrev turn : Reply → Table → Turned
turn its table = record { reply = its; table = table }

registered_answers : (there : Option Entry) (entry : Entry) (previous : Option ActivationId) (table : Table)
    → ((other : Entry) → there ≡ Some other → IsNamed other) → IsNamed entry
    → Answers (registered_over there entry previous table).reply
registered_answers None entry previous table each is = is
registered_answers (Some there) entry previous table each is =
    on_bool (λ b. Answers (cond b (turn (reply.Registered entry) table)
    (cond (is_previous previous there) (turn (reply.Registered entry) (with_entry table entry))
    (turn (reply.Taken there) table))).reply) (activation_eq there.activation entry.activation)
    (λ t. is)
    (λ f. on_bool (λ b. Answers (cond b (turn (reply.Registered entry) (with_entry table entry)) (turn (reply.Taken there) table)).reply)
    (is_previous previous there) (λ t. is) (λ g. each there refl))

deregistered_answers : (there : Option Entry) (entry : Entry) (table : Table) → Answers (deregistered_from there entry table).reply
deregistered_answers None entry table = tt
deregistered_answers (Some there) entry table =
    on_bool (λ b. Answers (cond b (turn reply.Removed (without_grain entry.grain table)) (turn reply.Absent table)).reply)
    (activation_eq there.activation entry.activation) (λ t. tt) (λ f. tt)

found_answers : (there : Option Entry) → ((other : Entry) → there ≡ Some other → IsNamed other) → Answers (found_reply there)
found_answers None each = tt
found_answers (Some there) each = each there refl

served_answers : (its : Act) (piece : Piece) (holding : Holding) (request : Request) → AreNamed piece.entries → NamesAct its
    → Answers (served_by its piece holding request).reply
served_answers (act.Register entry previous) piece holding request named is =
    registered_answers (entry_at entry.grain piece.entries) entry previous piece.entries
    (λ other found. there_named entry.grain piece.entries other named found) is
served_answers (act.Deregister entry) piece holding request named is =
    deregistered_answers (entry_at entry.grain piece.entries) entry piece.entries
served_answers (act.Find grain) piece holding request named is =
    found_answers (entry_at grain piece.entries) (λ other found. there_named grain piece.entries other named found)

found_table : (hash : ℕ) (pieces : List (ℕ × Piece)) (piece : Piece) → All (λ e. AreNamed e.1.entries) pieces
    → piece_with hash pieces ≡ Some piece → AreNamed piece.entries
found_table hash [] piece named found = absurd (cc (found))
found_table hash (e ∷ es) piece named found =
    by (holds e.1.range hash) found (λ later. found_table hash es piece (All-tail (λ (x : ℕ × Piece). AreNamed x.1.entries) e es named)
    later)
  where
    by : (b : Bool) → option_map (λ x. x.1) (cond b (Some e) (find (λ x. holds x.1.range hash) es)) ≡ Some piece
        → (piece_with hash es ≡ Some piece → AreNamed piece.entries) → AreNamed piece.entries
    by true here rest =
        let same : e.1 ≡ piece = cc (here) in subst (λ (p : Piece). AreNamed p.entries) same
        (All-head (λ (x : ℕ × Piece). AreNamed x.1.entries) e es named)
    by false there rest = rest there

answers_by : (serving : Result Piece Why) (holding : Holding) (request : Request) → All (λ e. AreNamed e.1.entries) holding.pieces
    → NamesAct request.act → serving_piece holding request ≡ serving
    → Answers (answered_from serving holding request).reply
answers_by (Ok piece) holding request named is so =
    served_answers request.act piece holding request
    (found_table request.hash holding.pieces piece named (serves holding request piece so).found) is
answers_by (Err why) holding request named is so = tt

pub answers : (holding : Holding) (request : Request) → All (λ e. AreNamed e.1.entries) holding.pieces → NamesAct request.act
    → Answers (answered holding request).reply
answers holding request named is = answers_by (serving_piece holding request) holding request named is refl

-- ---- pages
page_digest : (found : Option Snapshot) (number : ℕ) (page : Page) → page_from found number ≡ Hands_page page → IsDigest page.digest
page_digest None number page is = absurd (cc (is))
page_digest (Some snapshot) number page is =
    on_bool (λ b. cond b (Hands_page (page_of snapshot number)) Has_none ≡ Hands_page page → IsDigest page.digest)
    (nat_lt number (page_count (length snapshot.entries)))
    (λ t so. let same : page_of snapshot number ≡ page = cc (so) in
    subst (λ (p : Page). IsDigest p.digest) same (is_digest snapshot.entries))
    (λ f so. absurd (cc (so))) is

pub handed_digest : (shelf : List Snapshot) (seen version : ℕ) (range : Range) (asker : Silo) (number : ℕ) (page : Page)
    → shelf_answer shelf seen version range asker number ≡ Hands_page page → IsDigest page.digest
handed_digest shelf seen version range asker number page is =
    on_bool (λ b. cond b Is_behind (page_from (find (is_snapshot version range asker) shelf) number) ≡ Hands_page page
    → IsDigest page.digest) (nat_lt seen version)
    (λ t so. absurd (cc (so))) (λ f so. page_digest (find (is_snapshot version range asker) shelf) number page so) is

-- ---- reports
-- where the silo has told up to a grain
told_to_grains : (silo : Silo) (o : Option Grain) (told : List (Silo × Grain)) → All (λ e. IsGrain e.1) told → IfSome o IsGrain
    → All (λ e. IsGrain e.1) (told_to silo o told)
told_to_grains silo None told all is = all
told_to_grains silo (Some grain) told all is = all_put silo_cmp silo_cmp_exact (λ (e : Silo × Grain). IsGrain e.1) silo grain told all is

last_is_grain : (after : Option Grain) (entries : List Entry) → IfSome after IsGrain → AllNamed entries
    → IfSome (last_grain after entries) IsGrain
last_is_grain after [] is named = is
last_is_grain after (entry ∷ entries) is named =
    last_is_grain (Some entry.grain) entries (All-head IsNamed entry entries named).grain (All-tail IsNamed entry entries named)

abbrev pub StillAsks : Recovered → Type 0
StillAsks (Has_more recovery) = AsksOn recovery
StillAsks (Awaits_more recovery) = AsksOn recovery
StillAsks (Has_union table) = ⊤
StillAsks (Rejects number) = ⊤

pub recovered_asks : (recovery : Recovery) (report : Report) → AsksOn recovery → IfSome report.after IsGrain → AllNamed report.entries
    → StillAsks (recovered recovery report)
recovered_asks recovery report asks is named = by (recovered recovery report) (taken_so recovery report)
  where
    more : AsksOn (with_more recovery report)
    more = record {
      silos = asks.silos;
      grains =
          told_to_grains report.silo (last_grain report.after report.entries) recovery.told asks.grains
          (last_is_grain report.after report.entries is named);
    }

    last : AsksOn (with_last recovery report)
    last = record {
      silos = All-filter (λ silo. not (silo_eq silo report.silo)) IsSilo recovery.awaiting asks.silos;
      grains = all_removed (λ (e : Silo × Grain). IsGrain e.1) (is_at (silo_cmp report.silo)) recovery.told asks.grains;
    }

    by : (result : Recovered) → TakenSo recovery report result → StillAsks result
    by (Has_more next) so = subst AsksOn (sym so.2) more
    by (Awaits_more next) so = subst AsksOn (sym so.2) last
    by (Has_union table) so = tt
    by (Rejects number) so = tt
