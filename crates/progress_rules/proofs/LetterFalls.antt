-- What a node sends when a letter comes, whatever it says.
use Rattle.std.proofs.Common.{arith, ◌≡◌, refl, ap, ℕ, ◌+◌, ◌≤◌, List, [], ◌∷◌, length}
use Rattle.std.specs.Prelude.{Bool, true, false, cond, ◌==◌, ◌&&◌, ◌||◌, nat_lt, sum_by, Option, Some, None}
use Rattle.std.specs.List.{list_all}
use Rattle.std.proofs.lemmas.Bool.{eqb-true}
use Rattle.std.proofs.lemmas.List.Elements.{All-weaker}
use Rattle.texts.proofs.Decided.{both}
use Rattle.silo_address.specs.Silo.{Silo, silo_eq}
use Rattle.silo_address.specs.Grain.{Grain}
use Rattle.silo_address.specs.declared.Entry.{Entry}
use Rattle.ring_range.specs.Range.{Range}
use Rattle.hash_ring.specs.Hash.{hash_grain}
use Rattle.hash_ring.specs.declared.Hashing.{Hashing}
use Rattle.directory_rules.specs.declared.act.Act.{Act}
use Rattle.directory_rules.specs.declared.act.Act.TheVariants as act
use Rattle.directory_rules.specs.declared.act.Request.{Request}
use Rattle.directory_rules.specs.declared.reply.Reply.{Reply}
use Rattle.directory_rules.specs.declared.reply.Reply.TheVariants as reply
use Rattle.directory_rules.specs.declared.held.Held.{Held}
use Rattle.directory_rules.specs.declared.effect.Effect.{Effect}
use Rattle.directory_rules.specs.declared.effect.Effect.TheVariants as effect
use Rattle.directory_rules.specs.declared.piece_state.PieceState.{PieceState}
use Rattle.directory_rules.specs.State.{Piece, Page, Gathering, Report, Host, Cache, Letter, Body, Request_letter, Reply_letter, Ask_letter, Page_letter, Missing_letter, Done_letter, Query_letter, Report_letter, Survey_letter, Empty_letter, Behind_letter, Ahead_letter, Offer_letter, Node}
use Rattle.directory_rules.specs.Standing.{rise_behind, last_grain}
use Rattle.directory_rules.specs.Table.{lie_in}
use Rattle.directory_rules.specs.Snapshot.{shelf_answer}
use Rattle.directory_rules.specs.Gatherings.{Refuses, gathered}
use Rattle.directory_rules.specs.Recovery.{Recovered, Has_more, Awaits_more, Has_union, Rejects, recovered}
use Rattle.directory_rules.specs.Host.{asking_under, closing_under, is_finding, is_outstanding, confirmed, without_held, without_find, with_started, next_held, entry_of}
use Rattle.directory_rules.specs.Cache.{learnt}
use Rattle.directory_rules.specs.Answer.{answered}
use Rattle.directory_rules.specs.Sent.{letter_if_owned, owner_by, hash_of, request_of, gathering_of, recovery_of}
use Rattle.directory_rules.specs.Step.{Stepped, silently, started}
use Rattle.directory_rules.specs.Reply.{replied, at_seen, confirmed_by, yielded_by, ended_by, found_by, not_found_by}
use Rattle.directory_rules.specs.Receive.{requested, replying, received_body, offered_to, takes_offer}
use Rattle.directory_rules.specs.Transfer.{piece_at, has_range, is_recovering, answer_to, queried, report_of, recovers, is_report_awaited, is_page_awaited, recovered_by, reported, with_settled, with_recovery}
use Rattle.directory_rules.specs.Laws.{requests_of}
use Rattle.directory_rules.proofs.Cases.{on_bool}
use Rattle.directory_facts.specs.Pieces.{HasPieces, IsPiece}
use Rattle.directory_facts.proofs.Answers.{answers_leave_others}
use Rattle.directory_facts.proofs.Collected.{TakenSo, taken_so}
use Rattle.progress_rules.specs.Room.{pages_shelved}
use Rattle.progress_rules.proofs.Sums.{le_same, sum_outline}
use Rattle.progress_rules.proofs.RequestCounts.{confirmed_less, held_less, find_less, started_more}
use Rattle.progress_rules.proofs.Waits.{HasRecovering, recovering_piece}
use Rattle.progress_rules.proofs.Falls.{Left, need_of, need, Falls, quietly, nothing, answers}
use Rattle.progress_rules.proofs.LeftReports.{continues_need, collects_need, completes_need}
use Rattle.progress_rules.proofs.PageFalls.{page_falls, missing_falls}
use Rattle.progress_rules.proofs.ShelfFalls.{ask_falls, done_falls}
use Rattle.progress_rules.proofs.SurveyFalls.{survey_falls, empty_falls}

-- what the test of a report says
pub record CountsSo (node : Node) (letter : Letter) (report : Report) : Type 0 where
  pub version : report.version ≡ letter.version
  pub seen : letter.version ≡ node.view.version
  pub recovers : has_range is_recovering report.range (piece_at node report.range) ≡ true
  pub rises : rise_behind (hash_grain node.settings.hashing) (report.range ∷ []) report.after report.entries ≡ true
  pub lie : lie_in node.settings.hashing report.range report.entries ≡ true

pub counts_so : (node : Node) (letter : Letter) (report : Report) → is_report_awaited node letter report ≡ true → CountsSo node letter report
counts_so node letter report counts =
    let seven = both (version && sender && waits && rise && lie && own) some counts in
    let six = both (version && sender && waits && rise && lie) own seven.0 in
    let five = both (version && sender && waits && rise) lie six.0 in
    let four = both (version && sender && waits) rise five.0 in
    let three = both (version && sender) waits four.0 in
    let two = both version sender three.0 in
    let seen = both (letter.version == node.view.version) (has_range is_recovering report.range (piece_at node report.range)) three.1 in
    record {
      version = eqb-true report.version letter.version two.0;
      seen = eqb-true letter.version node.view.version seen.0;
      recovers = seen.1;
      rises = four.1;
      lie = five.1;
    }
  where
    version : Bool
    version = report.version == letter.version

    sender : Bool
    sender = silo_eq report.silo letter.from

    waits : Bool
    waits = recovers node letter.version report.range

    rise : Bool
    rise = rise_behind (hash_grain node.settings.hashing) (report.range ∷ []) report.after report.entries

    lie : Bool
    lie = lie_in node.settings.hashing report.range report.entries

    own : Bool
    own = list_all (λ e. silo_eq e.activation.silo letter.from) report.entries

    some : Bool
    some = report.last || nat_lt 0 (length report.entries)

module _ (due : Silo → Range → ℕ) (left : Left) (hashing : Hashing) (node : Node) (has : HasPieces hashing node) (letter : Letter) where
  shelf_same : (silo : Silo) (version : ℕ) (range : Range)
      → pages_shelved (Some node) silo version range ≤ pages_shelved (Some node) silo version range
  shelf_same silo version range = le_same (pages_shelved (Some node) silo version range)

  -- ---- queries and reports
  query_falls : (range : Range) (after : Option Grain) → Falls due left node (Query_letter range after) (queried node letter range after)
  query_falls range after =
      on_bool (λ b. Falls due left node (Query_letter range after)
      (cond b (back (Behind_letter range) effect.Behind)
      (cond (nat_lt letter.version node.view.version) (back (Ahead_letter range) effect.Ahead)
      (back (Report_letter (report_of node range after)) effect.Report))))
      (nat_lt node.view.version letter.version)
      (λ t. answers due left node (Query_letter range after) letter (Behind_letter range) effect.Behind (le_same 1) refl refl)
      (λ f. on_bool (λ b. Falls due left node (Query_letter range after)
      (cond b (back (Ahead_letter range) effect.Ahead) (back (Report_letter (report_of node range after)) effect.Report)))
      (nat_lt letter.version node.view.version)
      (λ t. answers due left node (Query_letter range after) letter (Ahead_letter range) effect.Ahead (le_same 1) refl refl)
      (λ g. answers due left node (Query_letter range after) letter (Report_letter (report_of node range after)) effect.Report (le_same 1) refl refl))
    where
      back : Body → Effect → Stepped
      back body its = record { node = node; letters = answer_to letter node body ∷ []; effect = its }

  module _ (some : (silo : Silo) (range : Range) (after : Option Grain) → 1 ≤ left silo range after) where
    by_recovered : (report : Report) (result : Recovered) → TakenSo (recovery_of node report.range) report result
        → HasRecovering node report.range
        → (report.last ≡ false
        → left report.silo report.range (last_grain report.after report.entries) + 1 ≤ left report.silo report.range report.after)
        → Falls due left node (Report_letter report) (recovered_by result report node)
    by_recovered report (Has_more recovery) so its fewer = record {
      sends = let less = continues_need due left some hashing node has report its recovery so (fewer so.1) in omega (arith, less);
      begins = omega arith;
      no_offers = refl;
      shelves = shelf_same;
      silo_is = refl;
      view_is = refl;
    }
    by_recovered report (Awaits_more recovery) so its fewer =
        quietly due left node (Report_letter report) (with_recovery node recovery) effect.More
        (collects_need due left some hashing node has report its recovery so) (le_same (length (requests_of node.host))) shelf_same refl refl
    by_recovered report (Has_union table) so its fewer =
        quietly due left node (Report_letter report) (with_settled node report.range table) effect.Complete
        (completes_need due left some hashing node has report its table)
        (le_same (length (requests_of node.host))) shelf_same refl refl
    by_recovered report (Rejects number) so its fewer = nothing due left node (Report_letter report) effect.Ignored

    report_falls : (report : Report) → (is_report_awaited node letter report ≡ true → report.last ≡ false
        → left report.silo report.range (last_grain report.after report.entries) + 1 ≤ left report.silo report.range report.after)
        → Falls due left node (Report_letter report) (reported node letter report)
    report_falls report fewer =
        on_bool (λ b. is_report_awaited node letter report ≡ b
        → Falls due left node (Report_letter report) (cond b (recovered_by (recovered (recovery_of node report.range) report) report node)
        (silently node effect.Ignored)))
        (is_report_awaited node letter report)
        (λ t counts.
        let its = counts_so node letter report counts in
        by_recovered report (recovered (recovery_of node report.range) report) (taken_so (recovery_of node report.range) report)
        (recovering_piece node report.range its.recovers) (fewer counts))
        (λ f not. nothing due left node (Report_letter report) effect.Ignored) refl

  -- ---- requests and replies
  request_falls : (request : Request) → Falls due left node (Request_letter request) (requested node letter request)
  request_falls request =
      on_bool (λ b. Falls due left node (Request_letter request)
      (cond b (replying node request (answered node.holding request)) (silently node effect.Ignored)))
      (silo_eq request.sender letter.from && (request.version == letter.version))
      (λ t. record {
        sends =
            let under = All-weaker (λ (e : ℕ × Piece). IsPiece hashing e.0 e.1) (λ (e : ℕ × Piece). e.0 ≡ e.1.range.start)
            (λ e piece. piece.under) node.holding.pieces has.pieces.each in
            let leaves = answers_leave_others node.holding request under has.pieces.rising in
            let before = sum_outline (need_of due left node) node.holding.pieces in
            let after = sum_outline (need_of due left node) (answered node.holding request).holding.pieces in
            let same = ap (λ (os : List (ℕ × Range × PieceState)). sum_by (λ (o : ℕ × Range × PieceState). need_of due left node o.2 o.1) os) leaves.outline in
            omega (arith, before, after, same);
        begins = omega arith;
        no_offers = refl;
        shelves = shelf_same;
        silo_is = refl;
        view_is = refl;
      })
      (λ f. nothing due left node (Request_letter request) effect.Ignored)

  module _ (number : ℕ) (answer : Reply) where
    abbrev Replies : Stepped → Type 0
    Replies stepped = Falls due left node (Reply_letter number answer) stepped

    hosts : (host : Host) (cache : Cache) (its : Effect) → length (requests_of host) ≤ length (requests_of node.host)
        → host.silo ≡ node.host.silo
        → Replies (silently (record node { host = host; cache = cache }) its)
    hosts host cache its less same = quietly due left node (Reply_letter number answer) (record node { host = host; cache = cache }) its
        (le_same (need due left node)) less shelf_same same refl

    noted : (its : Effect) → Replies (silently node its)
    noted its = nothing due left node (Reply_letter number answer) its

    seen_or : (version : ℕ) (stepped : Stepped) → Replies stepped → Replies (at_seen version node stepped)
    seen_or version stepped is =
        on_bool (λ b. Replies (cond b stepped (silently node effect.Ignored))) (version == node.view.version) (λ t. is)
        (λ f. noted effect.Ignored)

    confirms : (o : Option (Grain × Held)) → Replies (confirmed_by o node)
    confirms None = noted effect.Ignored
    confirms (Some e) = hosts (confirmed node.host e.0 e.1) node.cache effect.Firm (confirmed_less node.host e) refl

    yields : (o : Option (Grain × Held)) (entry : Entry) → Replies (yielded_by o entry node)
    yields None entry = noted effect.Ignored
    yields (Some e) entry = hosts (without_held node.host e.0) (learnt node.cache entry) effect.Yielded (held_less node.host e.0) refl

    ends : (o : Option (Grain × Held)) → Replies (ended_by o node)
    ends None = noted effect.Ignored
    ends (Some e) = hosts (without_held node.host e.0) node.cache effect.Ended (held_less node.host e.0) refl

    reply_falls : (version under : ℕ) (its : Reply) → Replies (replied node version under its)
    reply_falls version under (reply.Registered entry) =
        seen_or version (confirmed_by (asking_under node.host under) node) (confirms (asking_under node.host under))
    reply_falls version under (reply.Taken entry) =
        seen_or version (yielded_by (asking_under node.host under) entry node) (yields (asking_under node.host under) entry)
    reply_falls version under reply.Removed =
        seen_or version (ended_by (closing_under node.host under) node) (ends (closing_under node.host under))
    reply_falls version under reply.Absent =
        seen_or version (ended_by (closing_under node.host under) node) (ends (closing_under node.host under))
    reply_falls version under (reply.Found entry) =
        seen_or version (found_by under entry node)
        (on_bool (λ b. Replies (cond b (silently (record node { host = without_find node.host under; cache = learnt node.cache entry })
        effect.Learnt)
        (silently node effect.Ignored))) (is_finding node.host under)
        (λ t. hosts (without_find node.host under) (learnt node.cache entry) effect.Learnt (find_less node.host under) refl)
        (λ f. noted effect.Ignored))
    reply_falls version under reply.Nothing =
        seen_or version (not_found_by under node)
        (on_bool (λ b. Replies (cond b (silently (record node { host = without_find node.host under }) effect.Noted)
        (silently node effect.Ignored))) (is_finding node.host under)
        (λ t. hosts (without_find node.host under) node.cache effect.Noted (find_less node.host under) refl) (λ f. noted effect.Ignored))
    reply_falls version under (reply.Retry why) =
        on_bool (λ b. Replies (cond b (silently node effect.Noted) (silently node effect.Ignored))) (is_outstanding node.host under)
        (λ t. noted effect.Noted) (λ f. noted effect.Ignored)

  -- ---- offers
  begins_one : (entry : Entry) → Falls due left node (Offer_letter entry) (started node entry.grain (Some entry.activation))
  begins_one entry = by (owner_by node (hash_of node its))
    where
      its : Act
      its = act.Register (entry_of node.host entry.grain (next_held node.host (Some entry.activation))) (Some entry.activation)

      stepped : Option Silo → Stepped
      stepped owner = record {
        node = record node { host = with_started node.host entry.grain (Some entry.activation) };
        letters = letter_if_owned owner node (Request_letter (request_of node node.host.next_number its));
        effect = effect.Started (entry_of node.host entry.grain (next_held node.host (Some entry.activation)));
      }

      by : (owner : Option Silo) → Falls due left node (Offer_letter entry) (stepped owner)
      by None = record {
        sends = omega arith;
        begins = started_more node.host entry.grain (Some entry.activation);
        no_offers = refl;
        shelves = shelf_same;
        silo_is = refl;
        view_is = refl;
      }
      by (Some owner) = record {
        sends = omega arith;
        begins = started_more node.host entry.grain (Some entry.activation);
        no_offers = refl;
        shelves = shelf_same;
        silo_is = refl;
        view_is = refl;
      }

  offer_falls : (entry : Entry) → Falls due left node (Offer_letter entry) (offered_to node letter entry)
  offer_falls entry =
      on_bool (λ b. Falls due left node (Offer_letter entry)
      (cond b (started node entry.grain (Some entry.activation)) (silently node effect.Ignored)))
      (takes_offer node letter entry)
      (λ t. begins_one entry) (λ f. nothing due left node (Offer_letter entry) effect.Ignored)

  -- ---- whatever the letter says
  pub letter_falls : (body : Body) → ((silo : Silo) (range : Range) (after : Option Grain) → 1 ≤ left silo range after)
      → ((page : Page) → body ≡ Page_letter page → is_page_awaited node letter page ≡ true
      → page.pages ≤ due letter.from page.range)
      → ((page : Page) (left_over : Gathering) → body ≡ Page_letter page → is_page_awaited node letter page ≡ true
      → gathered (gathering_of node page.range) page ≡ Refuses 701 left_over
      → ⊥)
      → ((report : Report) → body ≡ Report_letter report → is_report_awaited node letter report ≡ true → report.last ≡ false
      → left report.silo report.range (last_grain report.after report.entries) + 1 ≤ left report.silo report.range report.after)
      → Falls due left node body (received_body body node letter)
  letter_falls (Request_letter request) some told kept fewer = request_falls request
  letter_falls (Reply_letter number answer) some told kept fewer = reply_falls number answer letter.version number answer
  letter_falls (Ask_letter range page) some told kept fewer =
      ask_falls due left hashing node has letter range page (shelf_answer node.shelf node.view.version letter.version range letter.from page)
      refl
  letter_falls (Page_letter page) some told kept fewer =
      page_falls due left hashing node has letter page (told page refl) (λ left_over. kept page left_over refl)
  letter_falls (Missing_letter range) some told kept fewer = missing_falls due left hashing node has letter range some
  letter_falls (Done_letter range) some told kept fewer = done_falls due left hashing node has letter range
  letter_falls (Query_letter range after) some told kept fewer = query_falls range after
  letter_falls (Report_letter report) some told kept fewer = report_falls some report (fewer report refl)
  letter_falls (Survey_letter ranges) some told kept fewer = survey_falls due left node letter ranges
  letter_falls (Empty_letter ranges) some told kept fewer = empty_falls due left some hashing node has letter ranges
  letter_falls (Behind_letter range) some told kept fewer = nothing due left node (Behind_letter range) effect.Noted
  letter_falls (Ahead_letter range) some told kept fewer = nothing due left node (Ahead_letter range) effect.Noted
  letter_falls (Offer_letter entry) some told kept fewer = offer_falls entry
