-- Every step leaves a node's pieces what its silo owns by its ring, each hash in one of them.
use Rattle.std.proofs.Common.{◌≡◌, refl, sym, ap, subst, ◌∙◌, ℕ, ◌<◌, List, [], ◌∷◌}
use Rattle.std.specs.Prelude.{length, nat_lt, ◌||◌, Bool, true, false, cond, not, ◌==◌, ◌&&◌, ◌++◌, is_some, filter, fold, All, Option, Some, None, Result, Ok, Err, IfOk}
use Rattle.std.specs.Ordering.{nat_cmp}
use Rattle.std.specs.Map.{lookup}
use Rattle.std.specs.BTreeMap.{is_at}
use Rattle.std.proofs.lemmas.List.Kept.{AllPairs-filter}
use Rattle.texts.proofs.Decided.{both}
use Rattle.silo_address.specs.Silo.{Silo, silo_eq}
use Rattle.silo_address.specs.Grain.{Grain}
use Rattle.silo_address.specs.declared.ActivationId.{ActivationId}
use Rattle.silo_address.specs.declared.Entry.{Entry}
use Rattle.membership_view.specs.View.{ViewValue}
use Rattle.ring_range.specs.Range.{Range, EachHash, range_eq}
use Rattle.ring_range.proofs.Same.{Decides-range}
use Rattle.hash_ring.specs.declared.Point.{Point}
use Rattle.hash_ring.specs.Point.{IsOnCircle}
use Rattle.hash_ring.specs.Places.{PlacesValue, IsPlaces}
use Rattle.hash_ring.specs.Ring.{is_active_in, sorted_ring}
use Rattle.range_moves.specs.declared.RingArc.{RingArc}
use Rattle.range_moves.specs.Arcs.{owner_silo, arcs_of}
use Rattle.range_moves.proofs.Between.{arcs_whole}
use Rattle.directory_rules.specs.declared.act.Act.{Act}
use Rattle.directory_rules.specs.declared.act.Act.TheVariants.{Register, Deregister, Find}
use Rattle.directory_rules.specs.declared.act.Request.{Request}
use Rattle.directory_rules.specs.declared.held.Held.{Held}
use Rattle.directory_rules.specs.declared.piece_state.PieceState.{PieceState}
use Rattle.directory_rules.specs.declared.piece_state.PieceState.TheVariants as state
use Rattle.directory_rules.specs.declared.reply.Reply.{Reply}
use Rattle.directory_rules.specs.declared.reply.Reply.TheVariants as reply
use Rattle.directory_rules.specs.declared.reply.Why.{Why}
use Rattle.directory_rules.specs.declared.reply.Why.TheVariants.{View, OldNumber}
use Rattle.directory_rules.specs.declared.effect.Effect.TheVariants.{Ignored}
use Rattle.directory_rules.specs.declared.effect.Effect.TheVariants as effect
use Rattle.directory_rules.specs.Sight.{is_next, is_owner}
use Rattle.directory_rules.specs.State.{Piece, Holding, Table, Page, Report, Body, Request_letter, Reply_letter, Ask_letter, Page_letter, Missing_letter, Done_letter, Query_letter, Report_letter, Survey_letter, Empty_letter, Behind_letter, Ahead_letter, Offer_letter, Letter, Node}
use Rattle.directory_rules.specs.Table.{rise_by_grain, lie_in}
use Rattle.directory_rules.specs.Snapshot.{ShelfAnswer, Hands_page, Has_none, Is_behind, has_snapshot, shelf_without}
use Rattle.directory_rules.specs.Gatherings.{Gathered, Wants_page, Has_all, Refuses, gathered}
use Rattle.directory_rules.specs.Recovery.{Recovered, Has_more, Awaits_more, Has_union, Rejects, recovered}
use Rattle.directory_rules.specs.Answer.{piece_with, is_numbered, last_served, with_piece, serving_by_state, serving_by_piece, serving_piece, served_by, answered_from, answered}
use Rattle.directory_rules.specs.Step as at
use Rattle.directory_rules.specs.Reply as re
use Rattle.directory_rules.specs.Transfer as tr
use Rattle.directory_rules.specs.Receive as rc
use Rattle.directory_rules.specs.Sent.{gathering_of, recovery_of}
use Rattle.directory_rules.specs.Host.{renewed, renewed_about, outstanding, requests_about, is_firm, is_asking, has_numbers, has_count, is_full_of_activations, is_full_of_finds, held_of, asking_under, closing_under, is_finding, is_outstanding}
use Rattle.directory_rules.specs.Cache.{hint_of}
use Rattle.directory_rules.specs.Input.{Input, Sees, Does, Receives, step}
use Rattle.directory_rules.proofs.ReportCounts.{report_counts}
use Rattle.directory_rules.proofs.Sights.{on_circle, compared, sight_owned}
use Rattle.directory_rules.proofs.Ranges.{ranges, Rising, holding_in, held_by_ranges, changed_ranges, stands_at, rising_arcs}
use Rattle.directory_rules.specs.declared.own_step.OwnStep.TheVariants.{Wake, Close, Cancel, Find, Forget, Nudge, NudgeGrain, NudgeRanges, Offer}
use Rattle.directory_rules.proofs.Nodes.{Brings}

-- the ranges are what the silo owns by the ring's points, in order
pub record Own (points : List Point) (silo : Silo) (rs : List (ℕ × Range)) : Type 0 where
  pub on_circle : All IsOnCircle points
  pub once : EachHash (λ hash. holding_in hash rs ≡ cond (is_owner silo (owner_silo points hash)) 1 0)
  pub rising : Rising rs

abbrev pub Owned : Node → Type 0
Owned node = Own node.ring.points node.host.silo (ranges node.holding.pieces)

abbrev Kept : at.Stepped → Type 0
Kept stepped = Owned stepped.node

abbrev After : Result at.Stepped ℕ → Type 0
After result = IfOk result Kept

either : (b : Bool) (one other : at.Stepped) → Kept one → Kept other → Kept (cond b one other)
either true one other k l = k
either false one other k l = l

-- up to four refusals come before the step
refused_or : (a b c d : Bool) (k l m n : ℕ) (made : at.Stepped) → Kept made
    → After (cond a (Err k) (cond b (Err l) (cond c (Err m) (cond d (Err n) (Ok made)))))
refused_or true b c d k l m n made kept = tt
refused_or false true c d k l m n made kept = tt
refused_or false false true d k l m n made kept = tt
refused_or false false false true k l m n made kept = tt
refused_or false false false false k l m n made kept = kept

-- ---- a piece that is changed keeps its range
with_changed : (points : List Point) (silo : Silo) (pieces : List (ℕ × Piece)) (found changed : Piece) → Own points silo (ranges pieces)
    → lookup (is_at (nat_cmp changed.range.start)) pieces ≡ Some found → found.range ≡ changed.range
    → Own points silo (ranges (with_piece changed pieces))
with_changed points silo pieces found changed own there same =
    subst (Own points silo) (sym (changed_ranges (is_at (nat_cmp changed.range.start)) pieces found changed there same)) own

-- ---- own steps
close_held : (held : Option Held) (node : Node) (grain : Grain) → Owned node → After (at.close_held held node grain)
close_held None node grain is = tt
close_held (Some held) node grain is =
    refused_or false false (not (is_firm held.phase)) (not (has_numbers node.settings node.host 1)) 0 0 803 805 (at.closing node grain held)
    is

cancel_held : (held : Option Held) (node : Node) (grain : Grain) → Owned node → After (at.cancel_held held node grain)
cancel_held None node grain is = tt
cancel_held (Some held) node grain is =
    refused_or false false (not (is_asking held.phase)) (not (has_numbers node.settings node.host 1)) 0 0 808 805
    (at.cancelled node grain held) is

offer_held : (held : Option Held) (node : Node) (grain : Grain) (to : Silo) → Owned node → After (at.offer_held held node grain to)
offer_held None node grain to is = tt
offer_held (Some held) node grain to is =
    refused_or false (not (is_firm held.phase)) (not (is_active_in node.view to) || silo_eq to node.host.silo)
    (not (has_numbers node.settings node.host 1)) 0 803 807 805 (at.offered node grain held to) is

find_by : (hint : Option ActivationId) (node : Node) (grain : Grain) → Owned node → After (at.find_by hint node grain)
find_by (Some activation) node grain is = is
find_by None node grain is =
    refused_or false false (is_full_of_finds node.settings node.host) (not (has_numbers node.settings node.host 1)) 0 0 806 805
    (at.finding node grain) is

forget_hint : (hint : Option ActivationId) (node : Node) (grain : Grain) → Owned node → Kept (at.forget_hint hint node grain)
forget_hint None node grain is = is
forget_hint (Some activation) node grain is = is

-- ---- requests: a piece that serves is one that has the hash
by_number : (b : Bool) (why : Why) (piece there : Piece) → ◌≡◌ {A = Result Piece Why} (cond b (Err why) (Ok there)) (Ok piece)
    → there ≡ piece
by_number true why piece there is = absurd (cc)
by_number false why piece there is = cc

by_state : (its : PieceState) (piece there : Piece) (holding : Holding) (request : Request)
    → serving_by_state its there holding request ≡ Ok piece → there ≡ piece
by_state state.Settled piece there holding request is =
    by_number (is_numbered request.act && not (nat_lt (last_served request.sender holding.served) request.number))
    (OldNumber (last_served request.sender holding.served)) piece there is
by_state (state.Awaiting from) piece there holding request is = absurd (cc)
by_state state.Recovering piece there holding request is = absurd (cc)

by_piece : (found : Option Piece) (piece : Piece) (holding : Holding) (request : Request)
    → serving_by_piece found holding request ≡ Ok piece → found ≡ Some piece
by_piece None piece holding request is = absurd (cc)
by_piece (Some there) piece holding request is = ap Some (by_state there.state piece there holding request is)

by_version : (b : Bool) (why : Why) (serving : Result Piece Why) (piece : Piece) → cond b serving (Err why) ≡ Ok piece → serving ≡ Ok piece
by_version true why serving piece is = is
by_version false why serving piece is = absurd (cc)

pub serving_has : (holding : Holding) (request : Request) (piece : Piece) → serving_piece holding request ≡ Ok piece
    → piece_with request.hash holding.pieces ≡ Some piece
serving_has holding request piece is =
    by_piece (piece_with request.hash holding.pieces) piece holding request
    (by_version (request.version == holding.seen) (View holding.seen)
    (serving_by_piece (piece_with request.hash holding.pieces) holding request) piece is)

served : (points : List Point) (silo : Silo) (act : Act) (piece : Piece) (holding : Holding) (request : Request)
    → Own points silo (ranges holding.pieces)
    → lookup (is_at (nat_cmp piece.range.start)) holding.pieces ≡ Some piece
    → Own points silo (ranges (served_by act piece holding request).holding.pieces)
served points silo (Register entry previous) piece holding request own there =
    with_changed points silo holding.pieces piece _ own there refl
served points silo (Deregister entry) piece holding request own there = with_changed points silo holding.pieces piece _ own there refl
served points silo (Find grain) piece holding request own there = own

answered_own : (points : List Point) (silo : Silo) (serving : Result Piece Why) (holding : Holding) (request : Request)
    → Own points silo (ranges holding.pieces) → serving_piece holding request ≡ serving
    → Own points silo (ranges (answered_from serving holding request).holding.pieces)
answered_own points silo (Ok piece) holding request own is =
    served points silo request.act piece holding request own
    (stands_at request.hash holding.pieces piece own.rising (serving_has holding request piece is))
answered_own points silo (Err why) holding request own is = own

requested : (node : Node) (letter : Letter) (request : Request) → Owned node → Kept (rc.requested node letter request)
requested node letter request is =
    either (silo_eq request.sender letter.from && (request.version == letter.version))
    (rc.replying node request (answered node.holding request)) (at.silently node Ignored)
    (answered_own node.ring.points node.host.silo (serving_piece node.holding request) node.holding request is refl) is

-- ---- replies
confirmed_by : (found : Option (Grain × Held)) (node : Node) → Owned node → Kept (re.confirmed_by found node)
confirmed_by None node is = is
confirmed_by (Some e) node is = is

yielded_by : (found : Option (Grain × Held)) (entry : Entry) (node : Node) → Owned node → Kept (re.yielded_by found entry node)
yielded_by None entry node is = is
yielded_by (Some e) entry node is = is

ended_by : (found : Option (Grain × Held)) (node : Node) → Owned node → Kept (re.ended_by found node)
ended_by None node is = is
ended_by (Some e) node is = is

at_seen : (version : ℕ) (node : Node) (stepped : at.Stepped) → Owned node → Kept stepped → Kept (re.at_seen version node stepped)
at_seen version node stepped is kept = either (version == node.view.version) _ _ kept is

replied : (node : Node) (version number : ℕ) (answer : Reply) → Owned node → Kept (re.replied node version number answer)
replied node version number (reply.Registered entry) is = at_seen version node _ is (confirmed_by (asking_under node.host number) node is)
replied node version number (reply.Taken entry) is = at_seen version node _ is (yielded_by (asking_under node.host number) entry node is)
replied node version number reply.Removed is = at_seen version node _ is (ended_by (closing_under node.host number) node is)
replied node version number reply.Absent is = at_seen version node _ is (ended_by (closing_under node.host number) node is)
replied node version number (reply.Found entry) is = at_seen version node _ is (either (is_finding node.host number) _ _ is is)
replied node version number reply.Nothing is = at_seen version node _ is (either (is_finding node.host number) _ _ is is)
replied node version number (reply.Retry why) is = either (is_outstanding node.host number) _ _ is is

-- ---- transfers and recoveries: the piece that waits has just the letter's range
of_range : (test : PieceState → Bool) (range : Range) (found : Option Piece) → tr.has_range test range found ≡ true
    → (piece : Piece) × (found ≡ Some piece) × (piece.range ≡ range)
of_range test range None is = absurd (cc)
of_range test range (Some piece) is =
    (piece, refl, (Decides-range piece.range range).0 (both (range_eq piece.range range) (test piece.state) is).0)

settled_own : (test : PieceState → Bool) (node : Node) (range : Range) (its : PieceState) (table : Table) → Owned node
    → tr.has_range test range (tr.piece_at node range) ≡ true → Owned (tr.with_state node range its table)
settled_own test node range its table is waits =
    let there = of_range test range (tr.piece_at node range) waits in
    with_changed node.ring.points node.host.silo node.holding.pieces there.0 (record { range = range; state = its; entries = table }) is
    there.1 there.2

asked_by : (answer : ShelfAnswer) (letter : Letter) (range : Range) (node : Node) → Owned node → Kept (tr.asked_by answer letter range node)
asked_by (Hands_page page) letter range node is = is
asked_by Has_none letter range node is = is
asked_by Is_behind letter range node is = is

gathered_by : (result : Gathered) (letter : Letter) (range : Range) (node : Node) → Owned node
    → tr.awaits node letter.version range letter.from ≡ true → Kept (tr.gathered_by result letter range node)
gathered_by (Wants_page gathering) letter range node is waits = is
gathered_by (Has_all entries) letter range node is waits =
    settled_own (tr.is_awaiting_from letter.from) node range state.Settled _ is
    (both (letter.version == node.view.version) (tr.has_range (tr.is_awaiting_from letter.from) range (tr.piece_at node range)) waits).1
gathered_by (Refuses number gathering) letter range node is waits = either (number == 701) _ _ is is

recovered_by : (result : Recovered) (report : Report) (node : Node) (version : ℕ) → Owned node
    → tr.recovers node version report.range ≡ true → Kept (tr.recovered_by result report node)
recovered_by (Has_more recovery) report node version is waits = is
recovered_by (Awaits_more recovery) report node version is waits = is
recovered_by (Has_union table) report node version is waits =
    settled_own tr.is_recovering node report.range state.Settled table is
    (both (version == node.view.version) (tr.has_range tr.is_recovering report.range (tr.piece_at node report.range)) waits).1
recovered_by (Rejects number) report node version is waits = is

-- a step that is taken where a test answers yes
where_so : (b : Bool) (one other : at.Stepped) → (b ≡ true → Kept one) → Kept other → Kept (cond b one other)
where_so true one other k l = k refl
where_so false one other k l = l

paged : (node : Node) (letter : Letter) (page : Page) → Owned node → Kept (tr.paged node letter page)
paged node letter page is =
    let version = page.version == letter.version in
    let waits = tr.awaits node letter.version page.range letter.from in
    let rise = rise_by_grain ((gathering_of node page.range).entries ++ page.entries) in
    let lie = lie_in node.settings.hashing page.range page.entries in
    where_so (tr.is_page_awaited node letter page) _ _
    (λ counts. gathered_by (gathered (gathering_of node page.range) page) letter page.range node is
    (both version waits (both (version && waits) rise (both (version && waits && rise) lie counts).0).0).1)
    is

missing : (node : Node) (letter : Letter) (range : Range) → Owned node → Kept (tr.missing node letter range)
missing node letter range is =
    where_so (tr.awaits node letter.version range letter.from) _ _
    (λ waits. settled_own (tr.is_awaiting_from letter.from) node range state.Recovering [] is
    (both (letter.version == node.view.version) (tr.has_range (tr.is_awaiting_from letter.from) range (tr.piece_at node range)) waits).1)
    is

reported : (node : Node) (letter : Letter) (report : Report) → Owned node → Kept (tr.reported node letter report)
reported node letter report is =
    where_so (tr.is_report_awaited node letter report) _ _
    (λ counts. recovered_by (recovered (recovery_of node report.range) report) report node letter.version is
    (report_counts node letter report counts).waits)
    is

queried : (a b : Bool) (x y z : at.Stepped) → Kept x → Kept y → Kept z → Kept (cond a x (cond b y z))
queried true b x y z k l m = k
queried false true x y z k l m = l
queried false false x y z k l m = m

surveyed : (ranges : List Range) (node : Node) (letter : Letter) → Owned node → Kept (tr.surveyed node letter ranges)
surveyed [] node letter is = is
surveyed (first ∷ others) node letter is =
    queried (nat_lt node.view.version letter.version) (nat_lt letter.version node.view.version)
    (tr.answering letter node (Behind_letter first) effect.Behind) (tr.answering letter node (Ahead_letter first) effect.Ahead)
    (record { node = node; letters = tr.tellings letter node (first ∷ others); effect = effect.Report }) is is is

emptied : (letter : Letter) (ranges : List Range) (node : Node) → Owned node → Owned (fold (tr.told_nothing letter) node ranges)
emptied letter [] node is = is
emptied letter (range ∷ ranges) node is =
    emptied letter ranges (tr.told_nothing letter node range) (reported node letter (tr.nothing_in letter range) is)

received : (body : Body) (node : Node) (letter : Letter) → Owned node → Kept (rc.received_body body node letter)
received (Request_letter request) node letter is = requested node letter request is
received (Reply_letter number answer) node letter is = replied node letter.version number answer is
received (Ask_letter range page) node letter is = asked_by _ letter range node is
received (Page_letter page) node letter is = paged node letter page is
received (Missing_letter range) node letter is = missing node letter range is
received (Done_letter range) node letter is =
    either (has_snapshot node.shelf letter.version range letter.from)
    (at.silently (record node { shelf = shelf_without node.shelf letter.version range letter.from }) effect.Deleted)
    (at.silently node Ignored) is is
received (Query_letter range after) node letter is =
    queried (nat_lt node.view.version letter.version) (nat_lt letter.version node.view.version)
    (tr.answering letter node (Behind_letter range) effect.Behind) (tr.answering letter node (Ahead_letter range) effect.Ahead)
    (tr.answering letter node (Report_letter (tr.report_of node range after)) effect.Report) is is is
received (Report_letter report) node letter is = reported node letter report is
received (Survey_letter ranges) node letter is = surveyed ranges node letter is
received (Empty_letter ranges) node letter is = emptied letter ranges node is
received (Behind_letter range) node letter is = is
received (Ahead_letter range) node letter is = is
received (Offer_letter entry) node letter is = either (rc.takes_offer node letter entry) _ _ is is

-- ---- a sight makes the pieces anew
sight : (next : Bool) (node : Node) (before view : ViewValue) (places : PlacesValue) → Owned node → IsPlaces places
    → Kept (at.sight next node before view places)
sight next node before view places is kept =
    let old = at.compared_points next node before places in
    let new = sorted_ring view places in
    let arcs = arcs_of old new in
    record {
      on_circle = on_circle view places kept;
      once =
          λ hash below. held_by_ranges hash (at.sight next node before view places).node.holding.pieces
          ∙ (sight_owned next node before view places is.on_circle kept).once hash below;
      rising =
          rising_arcs next node.settings.hashing view node.host.silo node.holding.pieces
          (filter (λ arc. is_owner node.host.silo arc.to) arcs)
          (AllPairs-filter (λ (arc later : RingArc). arc.range.start < later.range.start) (λ arc. is_owner node.host.silo arc.to) arcs
          (arcs_whole old new (compared next node before places is.on_circle kept) (on_circle view places kept)).in_order);
    }

pub stepped : (node : Node) (input : Input) → Brings IsPlaces input → Owned node → After (step node input)
stepped node (Sees before view places) brings is =
    refused_or false false (not (nat_lt node.view.version view.version))
    (not (has_numbers node.settings node.host (length (outstanding node.host)))) 0 0 903 805
    (at.sight (is_next node.view before view node.host.silo) node before view places)
    (sight (is_next node.view before view node.host.silo) node before view places is brings)
stepped node (Does (Wake grain)) brings is =
    refused_or (not (is_active_in node.view node.host.silo)) (is_some (held_of node.host grain))
    (is_full_of_activations node.settings node.host) (not (has_numbers node.settings node.host 1 && has_count node.settings node.host))
    804 801 806 805
    (at.started node grain None) is
stepped node (Does (Close grain)) brings is = close_held (held_of node.host grain) node grain is
stepped node (Does (Cancel grain)) brings is = cancel_held (held_of node.host grain) node grain is
stepped node (Does (Find grain)) brings is = find_by (hint_of node.cache grain) node grain is
stepped node (Does (Forget grain)) brings is = forget_hint (hint_of node.cache grain) node grain is
stepped node (Does Nudge) brings is =
    refused_or false false false (not (has_numbers node.settings node.host (length (outstanding node.host)))) 0 0 0 805
    (at.having_nudged (record node { host = renewed node.host })) is
stepped node (Does (NudgeGrain grain)) brings is =
    refused_or false false false (not (has_numbers node.settings node.host (length (requests_about grain node.host)))) 0 0 0 805
    (at.having_nudged_grain (record node { host = renewed_about grain node.host }) grain) is
stepped node (Does NudgeRanges) brings is = is
stepped node (Does (Offer grain to)) brings is = offer_held (held_of node.host grain) node grain to is
stepped node (Receives letter) brings is = received letter.body node letter is
