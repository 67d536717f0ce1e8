-- What is shown of every way holds of every accepted step.
use Rattle.std.proofs.Common.{◌≡◌, ◌≢◌, refl, ap, subst, ◌∙◌, ℕ, arith}
use Rattle.std.specs.Prelude.{Bool, true, false, cond, not, ◌&&◌, ◌||◌, ◌==◌, ◌++◌, nat_le, nat_lt, is_some, is_none, length, List, [], ◌∷◌, Option, Some, None, Result, Ok, Err, IfOk}
use Rattle.std.specs.List.{list_any}
use Rattle.std.proofs.lemmas.Bool.{eqb-true, ltb-true, ltb-false, leb-true}
use Rattle.texts.proofs.Decided.{both}
use Rattle.silo_address.specs.Silo.{Silo, silo_eq}
use Rattle.silo_address.specs.Grain.{Grain}
use Rattle.silo_address.specs.declared.ActivationId.{ActivationId}
use Rattle.silo_address.specs.declared.Entry.{Entry}
use Rattle.silo_address.proofs.Same.{Decides-silo}
use Rattle.membership_view.specs.View.{ViewValue}
use Rattle.ring_range.specs.Range.{Range, range_eq}
use Rattle.ring_range.proofs.Same.{Decides-range}
use Rattle.hash_ring.specs.Places.{PlacesValue}
use Rattle.hash_ring.specs.Ring.{is_active_in}
use Rattle.directory_rules.specs.declared.act.Request.{Request}
use Rattle.directory_rules.specs.declared.held.Held.{Held}
use Rattle.directory_rules.specs.declared.held.Phase.{Phase}
use Rattle.directory_rules.specs.declared.held.Phase.TheVariants as phase
use Rattle.directory_rules.specs.declared.piece_state.PieceState.{PieceState}
use Rattle.directory_rules.specs.declared.piece_state.PieceState.TheVariants as state
use Rattle.directory_rules.specs.declared.reply.Reply.{Reply}
use Rattle.directory_rules.specs.declared.reply.Reply.TheVariants as reply
use Rattle.directory_rules.specs.declared.effect.Effect.TheVariants as effect
use Rattle.directory_rules.specs.State.{Piece, Page, Report, Body, Request_letter, Reply_letter, Ask_letter, Page_letter, Missing_letter, Done_letter, Query_letter, Report_letter, Survey_letter, Empty_letter, Behind_letter, Ahead_letter, Offer_letter, Letter, Node}
use Rattle.directory_rules.specs.Table.{rise_by_grain, lie_in}
use Rattle.directory_rules.specs.Snapshot.{ShelfAnswer, Hands_page, Has_none, Is_behind, shelf_answer, has_snapshot, shelf_without}
use Rattle.directory_rules.specs.Gatherings.{Gathered, Wants_page, Has_all, Refuses, gathered}
use Rattle.directory_rules.specs.Recovery.{Recovered, Has_more, Awaits_more, Has_union, Rejects, recovered}
use Rattle.directory_rules.specs.Host.{held_of, is_asking, outstanding, requests_about, has_numbers, has_count, is_full_of_activations, is_full_of_finds, is_firm, asking_under, closing_under, is_finding, is_outstanding, without_find}
use Rattle.directory_rules.specs.Cache.{hint_of, learnt}
use Rattle.directory_rules.specs.Sent.{gathering_of, recovery_of}
use Rattle.directory_rules.specs.Step as at
use Rattle.directory_rules.specs.Reply as re
use Rattle.directory_rules.specs.Transfer as tr
use Rattle.directory_rules.specs.Receive as rc
use Rattle.directory_rules.specs.PlainMachine.{Nothing_changes, step_of_effect}
use Rattle.directory_rules.specs.declared.own_step.OwnStep.TheVariants.{Wake, Close, Cancel, Find, Forget, Nudge, NudgeGrain, NudgeRanges, Offer}
use Rattle.directory_rules.specs.Input.{Input, Sees, Does, Receives, step}
use Rattle.directory_rules.proofs.ReportCounts.{report_counts}
use Rattle.directory_facts.proofs.Ways.{IsReply, HasPiece, IsPageTaken, IsReportTaken, Ways}

-- ---- what tests say
unless : (Q : at.Stepped → Type 0) (b : Bool) (number : ℕ) (result : Result at.Stepped ℕ) → (b ≡ false → IfOk result Q)
    → IfOk (cond b (Err number) result) Q
unless Q true number result then = tt
unless Q false number result then = then refl

where_so : (Q : at.Stepped → Type 0) (b : Bool) (one other : at.Stepped) → (b ≡ true → Q one) → (b ≡ false → Q other) → Q (cond b one other)
where_so Q true one other then otherwise = then refl
where_so Q false one other then otherwise = otherwise refl

is_so : (b : Bool) → not b ≡ false → b ≡ true
is_so true is = refl
is_so false is = cc (is)

is_not : (b : Bool) → not b ≡ true → b ≡ false
is_not true is = cc (is)
is_not false is = refl

neither : (a b : Bool) → (a || b) ≡ false → (a ≡ false) × (b ≡ false)
neither true b is = absurd (cc (is))
neither false b is = (refl, is)

none_there : {X : Type 0} (o : Option X) → is_some o ≡ false → o ≡ None
none_there None is = refl
none_there (Some x) is = absurd (cc (is))

nothing_there : {X : Type 0} (o : Option X) → is_none o ≡ true → o ≡ None
nothing_there None is = refl
nothing_there (Some x) is = absurd (cc (is))

firm_is : (its : Phase) → is_firm its ≡ true → its ≡ phase.Firm
firm_is (phase.Asking number) is = absurd (cc (is))
firm_is phase.Firm is = refl
firm_is (phase.Closing number) is = absurd (cc (is))

same_silo : (a b : Silo) → silo_eq a b ≡ true → a ≡ b
same_silo a b is = (Decides-silo a b).0 is

other_silo : (a b : Silo) → silo_eq a b ≡ false → a ≢ b
other_silo a b differ same = let is = (Decides-silo a b).1 same in cc (differ, is)

awaiting_is : (from : Silo) (its : PieceState) → tr.is_awaiting_from from its ≡ true → its ≡ state.Awaiting from
awaiting_is from state.Settled is = absurd (cc (is))
awaiting_is from (state.Awaiting other) is = ap state.Awaiting (same_silo other from is)
awaiting_is from state.Recovering is = absurd (cc (is))

recovering_is : (its : PieceState) → tr.is_recovering its ≡ true → its ≡ state.Recovering
recovering_is state.Settled is = absurd (cc (is))
recovering_is (state.Awaiting other) is = absurd (cc (is))
recovering_is state.Recovering is = refl

of_range : (test : PieceState → Bool) (range : Range) (found : Option Piece) → tr.has_range test range found ≡ true
    → (piece : Piece) × (found ≡ Some piece) × (piece.range ≡ range) × (test piece.state ≡ true)
of_range test range None is = absurd (cc (is))
of_range test range (Some piece) is =
    let so = both (range_eq piece.range range) (test piece.state) is in
    (piece, refl, (Decides-range piece.range range).0 so.0, so.1)

waiting : (test : PieceState → Bool) (node : Node) (version : ℕ) (range : Range)
    → ((version == node.view.version) && tr.has_range test range (tr.piece_at node range)) ≡ true
    → (piece : Piece) × HasPiece node version range piece × (test piece.state ≡ true)
waiting test node version range is =
    let so = both (version == node.view.version) (tr.has_range test range (tr.piece_at node range)) is in
    let there = of_range test range (tr.piece_at node range) so.1 in
    (there.0, record { seen = eqb-true version node.view.version so.0; found = there.1; same = there.2 }, there.3)

-- what the test of a report says
pub report_taken : (node : Node) (letter : Letter) (report : Report) → letter.body ≡ Report_letter report
    → tr.is_report_awaited node letter report ≡ true → IsReportTaken node letter report
report_taken node letter report body counts =
    let so = report_counts node letter report counts in
    let there = waiting tr.is_recovering node letter.version report.range so.waits in
    record {
      body = body;
      version = eqb-true report.version letter.version so.version;
      sender = same_silo report.silo letter.from so.sender;
      piece = there.0;
      has = there.1;
      recovers = recovering_is there.0.state there.2;
      rise = so.rise;
      lie = so.lie;
      own = so.own;
      some = so.some;
    }

-- what comes of empty ranges changes nothing to the plain machine
empty_plain : (whole taken : Bool) → step_of_effect (cond whole effect.Complete (cond taken effect.More effect.Ignored)) ≡ Nothing_changes
empty_plain true taken = refl
empty_plain false true = refl
empty_plain false false = refl

module _ (node : Node) (P : Input → at.Stepped → Type 0) (w : Ways node P) where
  -- ---- steps of the silo's own
  see : (before view : ViewValue) (places : PlacesValue) → IfOk (at.see node before view places) (P (Sees before view places))
  see before view places =
      unless (P (Sees before view places)) (not (nat_lt node.view.version view.version)) 903 _ (λ newer.
      unless (P (Sees before view places)) (not (has_numbers node.settings node.host (length (outstanding node.host)))) 805 _ (λ numbers.
      w.sees before view places (ltb-true node.view.version view.version (is_so _ newer)) (is_so _ numbers)))

  wake : (grain : Grain) → IfOk (at.wake node grain) (P (Does (Wake grain)))
  wake grain =
      unless (P (Does (Wake grain))) (not (is_active_in node.view node.host.silo)) 804 _ (λ active.
      unless (P (Does (Wake grain))) (is_some (held_of node.host grain)) 801 _ (λ free.
      unless (P (Does (Wake grain))) (is_full_of_activations node.settings node.host) 806 _ (λ room.
      unless (P (Does (Wake grain))) (not (has_numbers node.settings node.host 1 && has_count node.settings node.host)) 805 _ (λ left.
      let so = both (has_numbers node.settings node.host 1) (has_count node.settings node.host) (is_so _ left) in
      w.wakes grain (record {
        active = is_so _ active;
        free = none_there (held_of node.host grain) free;
        room = room;
        numbers = so.0;
        count = so.1;
      })))))

  close_held : (held : Option Held) (grain : Grain) → held_of node.host grain ≡ held
      → IfOk (at.close_held held node grain) (P (Does (Close grain)))
  close_held None grain found = tt
  close_held (Some held) grain found =
      unless (P (Does (Close grain))) (not (is_firm held.phase)) 803 _ (λ firm.
      unless (P (Does (Close grain))) (not (has_numbers node.settings node.host 1)) 805 _ (λ numbers.
      w.closes grain held (record { found = found; firm = firm_is held.phase (is_so _ firm); numbers = is_so _ numbers })))

  cancel_held : (held : Option Held) (grain : Grain) → held_of node.host grain ≡ held
      → IfOk (at.cancel_held held node grain) (P (Does (Cancel grain)))
  cancel_held None grain found = tt
  cancel_held (Some held) grain found =
      unless (P (Does (Cancel grain))) (not (is_asking held.phase)) 808 _ (λ asks.
      unless (P (Does (Cancel grain))) (not (has_numbers node.settings node.host 1)) 805 _ (λ numbers.
      w.cancels grain held (record { found = found; asks = is_so _ asks; numbers = is_so _ numbers })))

  offer_held : (held : Option Held) (grain : Grain) (to : Silo) → held_of node.host grain ≡ held
      → IfOk (at.offer_held held node grain to) (P (Does (Offer grain to)))
  offer_held None grain to found = tt
  offer_held (Some held) grain to found =
      unless (P (Does (Offer grain to))) (not (is_firm held.phase)) 803 _ (λ firm.
      unless (P (Does (Offer grain to))) (not (is_active_in node.view to) || silo_eq to node.host.silo) 807 _ (λ fit.
      unless (P (Does (Offer grain to))) (not (has_numbers node.settings node.host 1)) 805 _ (λ numbers.
      let so = neither (not (is_active_in node.view to)) (silo_eq to node.host.silo) fit in
      w.offers grain held to (record { found = found; firm = firm_is held.phase (is_so _ firm); numbers = is_so _ numbers }) (is_so _ so.0)
      (other_silo to node.host.silo so.1))))

  find_by : (hint : Option ActivationId) (grain : Grain) → hint_of node.cache grain ≡ hint
      → IfOk (at.find_by hint node grain) (P (Does (Find grain)))
  find_by (Some activation) grain found = w.uses_hint grain activation found
  find_by None grain found =
      unless (P (Does (Find grain))) (is_full_of_finds node.settings node.host) 806 _ (λ room.
      unless (P (Does (Find grain))) (not (has_numbers node.settings node.host 1)) 805 _ (λ numbers. w.finds grain room (is_so _ numbers)))

  forget_hint : (hint : Option ActivationId) (grain : Grain) → hint_of node.cache grain ≡ hint
      → P (Does (Forget grain)) (at.forget_hint hint node grain)
  forget_hint None grain found = w.nothing (Does (Forget grain)) (effect.NothingCached grain) refl
  forget_hint (Some activation) grain found = w.forgets grain activation found

  nudge : IfOk (at.nudge node) (P (Does Nudge))
  nudge =
      unless (P (Does Nudge)) (not (has_numbers node.settings node.host (length (outstanding node.host)))) 805 _
      (λ numbers. w.nudges (is_so _ numbers))

  nudge_grain : (grain : Grain) → IfOk (at.nudge_grain node grain) (P (Does (NudgeGrain grain)))
  nudge_grain grain =
      unless (P (Does (NudgeGrain grain))) (not (has_numbers node.settings node.host (length (requests_about grain node.host)))) 805 _
      (λ numbers. w.nudges_grain grain (is_so _ numbers))

  -- ---- letters
  ignores : (letter : Letter) → P (Receives letter) (at.silently node effect.Ignored)
  ignores letter = w.nothing (Receives letter) effect.Ignored refl

  requested : (letter : Letter) (request : Request) → letter.body ≡ Request_letter request
      → P (Receives letter) (rc.requested node letter request)
  requested letter request body =
      where_so (P (Receives letter)) (silo_eq request.sender letter.from && (request.version == letter.version)) _ _
      (λ is. let so = both (silo_eq request.sender letter.from) (request.version == letter.version) is in
      w.answers letter request body (same_silo request.sender letter.from so.0) (eqb-true request.version letter.version so.1))
      (λ otherwise. ignores letter)

  confirmed_by : (found : Option (Grain × Held)) (letter : Letter) (number : ℕ) (entry : Entry)
      → IsReply node letter number (reply.Registered entry) → asking_under node.host number ≡ found
      → P (Receives letter) (re.confirmed_by found node)
  confirmed_by None letter number entry is there = ignores letter
  confirmed_by (Some e) letter number entry is there = w.confirms letter number entry e is there

  yielded_by : (found : Option (Grain × Held)) (letter : Letter) (number : ℕ) (entry : Entry)
      → IsReply node letter number (reply.Taken entry) → asking_under node.host number ≡ found
      → P (Receives letter) (re.yielded_by found entry node)
  yielded_by None letter number entry is there = ignores letter
  yielded_by (Some e) letter number entry is there = w.yields letter number entry e is there

  removed_by : (found : Option (Grain × Held)) (letter : Letter) (number : ℕ) → IsReply node letter number reply.Removed
      → closing_under node.host number ≡ found → P (Receives letter) (re.ended_by found node)
  removed_by None letter number is there = ignores letter
  removed_by (Some e) letter number is there = w.removes letter number e is there

  missed_by : (found : Option (Grain × Held)) (letter : Letter) (number : ℕ) → IsReply node letter number reply.Absent
      → closing_under node.host number ≡ found → P (Receives letter) (re.ended_by found node)
  missed_by None letter number is there = ignores letter
  missed_by (Some e) letter number is there = w.misses letter number e is there

  at_seen : (letter : Letter) (number : ℕ) (answer : Reply) (stepped : at.Stepped) → letter.body ≡ Reply_letter number answer
      → (IsReply node letter number answer → P (Receives letter) stepped) → P (Receives letter) (re.at_seen letter.version node stepped)
  at_seen letter number answer stepped body so =
      where_so (P (Receives letter)) (letter.version == node.view.version) _ _
      (λ is. so (record { body = body; seen = eqb-true letter.version node.view.version is })) (λ otherwise. ignores letter)

  replied : (answer : Reply) (letter : Letter) (number : ℕ) → letter.body ≡ Reply_letter number answer
      → P (Receives letter) (re.replied node letter.version number answer)
  replied (reply.Registered entry) letter number body =
      at_seen letter number (reply.Registered entry) _ body (λ is. confirmed_by (asking_under node.host number) letter number entry is refl)
  replied (reply.Taken entry) letter number body =
      at_seen letter number (reply.Taken entry) _ body (λ is. yielded_by (asking_under node.host number) letter number entry is refl)
  replied reply.Removed letter number body =
      at_seen letter number reply.Removed _ body (λ is. removed_by (closing_under node.host number) letter number is refl)
  replied reply.Absent letter number body =
      at_seen letter number reply.Absent _ body (λ is. missed_by (closing_under node.host number) letter number is refl)
  replied (reply.Found entry) letter number body = at_seen letter number (reply.Found entry) _ body (λ is.
      where_so (P (Receives letter)) (is_finding node.host number)
      (at.silently (record node { host = without_find node.host number; cache = learnt node.cache entry }) effect.Learnt)
      (at.silently node effect.Ignored) (λ there. w.learns letter number entry is there) (λ otherwise. ignores letter))
  replied reply.Nothing letter number body = at_seen letter number reply.Nothing _ body (λ is.
      where_so (P (Receives letter)) (is_finding node.host number)
      (at.silently (record node { host = without_find node.host number }) effect.Noted) (at.silently node effect.Ignored)
      (λ there. w.notes letter number is there) (λ otherwise. ignores letter))
  replied (reply.Retry why) letter number body =
      where_so (P (Receives letter)) (is_outstanding node.host number) (at.silently node effect.Noted) (at.silently node effect.Ignored)
      (λ there. w.nothing (Receives letter) effect.Noted refl) (λ otherwise. ignores letter)

  asked_by : (answer : ShelfAnswer) (letter : Letter) (range : Range) (number : ℕ) → letter.body ≡ Ask_letter range number
      → shelf_answer node.shelf node.view.version letter.version range letter.from number ≡ answer
      → P (Receives letter) (tr.asked_by answer letter range node)
  asked_by (Hands_page page) letter range number body is = w.hands letter range number page body is
  asked_by Has_none letter range number body is = w.lacks letter range number body is
  asked_by Is_behind letter range number body is = w.lags letter range

  gathered_by : (result : Gathered) (letter : Letter) (page : Page) → IsPageTaken node letter page
      → gathered (gathering_of node page.range) page ≡ result → P (Receives letter) (tr.gathered_by result letter page.range node)
  gathered_by (Wants_page gathering) letter page taken is = w.gathers letter page gathering taken is
  gathered_by (Has_all entries) letter page taken is = w.installs letter page entries taken is
  gathered_by (Refuses number gathering) letter page taken is =
      where_so (P (Receives letter)) (number == 701) _ _
      (λ so. w.drops letter page gathering taken (is ∙ ap (λ n. Refuses n gathering) (eqb-true number 701 so)))
      (λ otherwise. ignores letter)

  paged : (letter : Letter) (page : Page) → letter.body ≡ Page_letter page → P (Receives letter) (tr.paged node letter page)
  paged letter page body =
      let version = page.version == letter.version in
      let waits = tr.awaits node letter.version page.range letter.from in
      let rise = rise_by_grain ((gathering_of node page.range).entries ++ page.entries) in
      let lie = lie_in node.settings.hashing page.range page.entries in
      where_so (P (Receives letter)) (tr.is_page_awaited node letter page) _ _
      (λ counts.
      let all = both (version && waits && rise) lie counts in
      let three = both (version && waits) rise all.0 in
      let two = both version waits three.0 in
      let there = waiting (tr.is_awaiting_from letter.from) node letter.version page.range two.1 in
      gathered_by (gathered (gathering_of node page.range) page) letter page (record {
        body = body;
        version = eqb-true page.version letter.version two.0;
        piece = there.0;
        has = there.1;
        awaits = awaiting_is letter.from there.0.state there.2;
        rise = three.1;
        lie = all.1;
      }) refl)
      (λ otherwise. ignores letter)

  missing : (letter : Letter) (range : Range) → letter.body ≡ Missing_letter range → P (Receives letter) (tr.missing node letter range)
  missing letter range body =
      where_so (P (Receives letter)) (tr.awaits node letter.version range letter.from) _ _
      (λ waits. let there = waiting (tr.is_awaiting_from letter.from) node letter.version range waits in
      w.turns letter range there.0 body there.1 (awaiting_is letter.from there.0.state there.2))
      (λ otherwise. ignores letter)

  recovered_by : (result : Recovered) (letter : Letter) (report : Report) → IsReportTaken node letter report
      → recovered (recovery_of node report.range) report ≡ result → P (Receives letter) (tr.recovered_by result report node)
  recovered_by (Has_more recovery) letter report taken is = w.continues letter report recovery taken is
  recovered_by (Awaits_more recovery) letter report taken is = w.collects letter report recovery taken is
  recovered_by (Has_union table) letter report taken is = w.completes letter report table taken is
  recovered_by (Rejects number) letter report taken is = ignores letter

  reported : (letter : Letter) (report : Report) → letter.body ≡ Report_letter report → P (Receives letter) (tr.reported node letter report)
  reported letter report body =
      where_so (P (Receives letter)) (tr.is_report_awaited node letter report) _ _
      (λ counts. recovered_by (recovered (recovery_of node report.range) report) letter report (report_taken node letter report body counts)
      refl)
      (λ otherwise. ignores letter)

  -- a letter about a range, that is answered at just its version
  at_version : (letter : Letter) (range : Range) (stepped : at.Stepped)
      → (letter.version ≡ node.view.version → P (Receives letter) stepped)
      → P (Receives letter) (cond (nat_lt node.view.version letter.version) (tr.answering letter node (Behind_letter range) effect.Behind)
      (cond (nat_lt letter.version node.view.version) (tr.answering letter node (Ahead_letter range) effect.Ahead) stepped))
  at_version letter range stepped so =
      where_so (P (Receives letter)) (nat_lt node.view.version letter.version) _ _ (λ below. w.lags letter range) (λ upto.
      where_so (P (Receives letter)) (nat_lt letter.version node.view.version) _ _ (λ above. w.passed letter range) (λ from.
      let low = ltb-false node.view.version letter.version upto in
      let high = ltb-false letter.version node.view.version from in
      let same : letter.version ≡ node.view.version = omega arith in
      so same))

  queried : (letter : Letter) (range : Range) (after : Option Grain) → letter.body ≡ Query_letter range after
      → P (Receives letter) (tr.queried node letter range after)
  queried letter range after body =
      at_version letter range (tr.answering letter node (Report_letter (tr.report_of node range after)) effect.Report)
      (w.reports letter range after body)

  surveyed : (ranges : List Range) (letter : Letter) → letter.body ≡ Survey_letter ranges
      → P (Receives letter) (tr.surveyed node letter ranges)
  surveyed [] letter body = ignores letter
  surveyed (first ∷ others) letter body =
      at_version letter first (record { node = node; letters = tr.tellings letter node (first ∷ others); effect = effect.Report })
      (w.surveys letter first others body)

  emptied : (letter : Letter) (ranges : List Range) → letter.body ≡ Empty_letter ranges → P (Receives letter) (tr.emptied node letter ranges)
  emptied letter ranges body =
      w.empties letter ranges (tr.empty_effect letter node ranges) body
      (empty_plain (list_any (tr.nothing_makes tr.is_whole letter node) ranges) (list_any (tr.nothing_makes tr.is_taken letter node) ranges))

  offered_to : (letter : Letter) (entry : Entry) → letter.body ≡ Offer_letter entry → P (Receives letter) (rc.offered_to node letter entry)
  offered_to letter entry body =
      let seen = nat_le letter.version node.view.version in
      let active = is_active_in node.view node.host.silo in
      let free = is_none (held_of node.host entry.grain) in
      let room = not (is_full_of_activations node.settings node.host) in
      let numbers = has_numbers node.settings node.host 1 in
      let count = has_count node.settings node.host in
      where_so (P (Receives letter)) (rc.takes_offer node letter entry) _ _
      (λ counts.
      let all = both (seen && active && free && room && numbers) count counts in
      let five = both (seen && active && free && room) numbers all.0 in
      let four = both (seen && active && free) room five.0 in
      let three = both (seen && active) free four.0 in
      let two = both seen active three.0 in
      w.takes_over letter entry body (leb-true letter.version node.view.version two.0)
      (record {
        active = two.1;
        free = nothing_there (held_of node.host entry.grain) three.1;
        room = is_not _ four.1;
        numbers = five.1;
        count = all.1;
      }))
      (λ otherwise. ignores letter)

  received : (body : Body) (letter : Letter) → letter.body ≡ body → P (Receives letter) (rc.received_body body node letter)
  received (Request_letter request) letter is = requested letter request is
  received (Reply_letter number answer) letter is = replied answer letter number is
  received (Ask_letter range number) letter is =
      asked_by (shelf_answer node.shelf node.view.version letter.version range letter.from number) letter range number is refl
  received (Page_letter page) letter is = paged letter page is
  received (Missing_letter range) letter is = missing letter range is
  received (Done_letter range) letter is =
      where_so (P (Receives letter)) (has_snapshot node.shelf letter.version range letter.from)
      (at.silently (record node { shelf = shelf_without node.shelf letter.version range letter.from }) effect.Deleted)
      (at.silently node effect.Ignored) (λ there. w.forgoes letter range is there) (λ otherwise. ignores letter)
  received (Query_letter range after) letter is = queried letter range after is
  received (Report_letter report) letter is = reported letter report is
  received (Survey_letter ranges) letter is = surveyed ranges letter is
  received (Empty_letter ranges) letter is = emptied letter ranges is
  received (Behind_letter range) letter is = w.nothing (Receives letter) effect.Noted refl
  received (Ahead_letter range) letter is = w.nothing (Receives letter) effect.Noted refl
  received (Offer_letter entry) letter is = offered_to letter entry is

  stepped : (input : Input) → IfOk (step node input) (P input)
  stepped (Sees before view places) = see before view places
  stepped (Does (Wake grain)) = wake grain
  stepped (Does (Close grain)) = close_held (held_of node.host grain) grain refl
  stepped (Does (Cancel grain)) = cancel_held (held_of node.host grain) grain refl
  stepped (Does (Find grain)) = find_by (hint_of node.cache grain) grain refl
  stepped (Does (Forget grain)) = forget_hint (hint_of node.cache grain) grain refl
  stepped (Does Nudge) = nudge
  stepped (Does (NudgeGrain grain)) = nudge_grain grain
  stepped (Does NudgeRanges) = w.nudges_ranges
  stepped (Does (Offer grain to)) = offer_held (held_of node.host grain) grain to refl
  stepped (Receives letter) = received letter.body letter refl

-- an accepted step
pub by_way : (node : Node) (P : Input → at.Stepped → Type 0) → Ways node P → (input : Input) (stepped : at.Stepped)
    → step node input ≡ Ok stepped → P input stepped
by_way node P w input made is = subst (λ result. IfOk result (P input)) is (stepped node P w input)
