-- Every step leaves a node's ring and holding at the version that the node has seen.
use Rattle.std.proofs.Common.{◌≡◌, refl, subst, ◌∙◌, ℕ}
use Rattle.std.specs.Prelude.{length, nat_lt, ◌||◌, List, [], ◌∷◌, fold, Bool, true, false, cond, not, ◌==◌, ◌&&◌, is_some, Option, Some, None, Result, Ok, Err, IfOk}
use Rattle.silo_address.specs.Silo.{Silo, silo_eq}
use Rattle.silo_address.specs.Grain.{Grain}
use Rattle.silo_address.specs.declared.ActivationId.{ActivationId}
use Rattle.silo_address.specs.declared.Entry.{Entry}
use Rattle.ring_range.specs.Range.{Range}
use Rattle.hash_ring.specs.Ring.{is_active_in}
use Rattle.directory_rules.specs.declared.act.Act.{Act}
use Rattle.directory_rules.specs.declared.act.Act.TheVariants.{Register, Deregister, Find}
use Rattle.directory_rules.specs.declared.act.Request.{Request}
use Rattle.directory_rules.specs.declared.held.Held.{Held}
use Rattle.directory_rules.specs.declared.reply.Reply.{Reply}
use Rattle.directory_rules.specs.declared.reply.Reply.TheVariants as reply
use Rattle.directory_rules.specs.declared.reply.Why.{Why}
use Rattle.directory_rules.specs.declared.effect.Effect.TheVariants.{Ignored}
use Rattle.directory_rules.specs.declared.effect.Effect.TheVariants as effect
use Rattle.directory_rules.specs.Sight.{is_next}
use Rattle.directory_rules.specs.State.{Piece, Holding, Report, Body, Request_letter, Reply_letter, Ask_letter, Page_letter, Missing_letter, Done_letter, Query_letter, Report_letter, Survey_letter, Empty_letter, Behind_letter, Ahead_letter, Offer_letter, Letter, Node}
use Rattle.directory_rules.specs.Snapshot.{ShelfAnswer, Hands_page, Has_none, Is_behind, has_snapshot, shelf_without}
use Rattle.directory_rules.specs.Gatherings.{Gathered, Wants_page, Has_all, Refuses, gathered}
use Rattle.directory_rules.specs.Recovery.{Recovered, Has_more, Awaits_more, Has_union, Rejects, recovered}
use Rattle.directory_rules.specs.Answer.{served_by, serving_piece, answered_from, answered}
use Rattle.directory_rules.specs.Step as at
use Rattle.directory_rules.specs.Reply as re
use Rattle.directory_rules.specs.Transfer as tr
use Rattle.directory_rules.specs.Receive as rc
use Rattle.directory_rules.specs.Sent.{gathering_of, recovery_of}
use Rattle.directory_rules.specs.Host.{renewed, renewed_about, outstanding, requests_about, is_firm, is_asking, has_numbers, has_count, is_full_of_activations, is_full_of_finds, held_of, asking_under, closing_under, is_finding, is_outstanding}
use Rattle.directory_rules.specs.Cache.{hint_of}
use Rattle.directory_rules.specs.Input.{Input, Sees, Does, Receives, step}
use Rattle.directory_rules.specs.Laws.{IsOfOneVersion, NodesAreOfOneVersion}
use Rattle.directory_rules.specs.declared.own_step.OwnStep.TheVariants.{Wake, Close, Cancel, Find, Forget, Nudge, NudgeGrain, NudgeRanges, Offer}
use Rattle.directory_rules.proofs.Nodes.{StepsKeep, each_after}

abbrev Kept : at.Stepped → Type 0
Kept stepped = IsOfOneVersion stepped.node

abbrev After : Result at.Stepped ℕ → Type 0
After result = IfOk result Kept

either : (b : Bool) (one other : at.Stepped) → Kept one → Kept other → Kept (cond b one other)
either true one other k l = k
either false one other k l = l

-- up to four refusals come before the step
refused_or : (a b c d : Bool) (k l m n : ℕ) (made : at.Stepped) → Kept made
    → After (cond a (Err k) (cond b (Err l) (cond c (Err m) (cond d (Err n) (Ok made)))))
refused_or true b c d k l m n made kept = tt
refused_or false true c d k l m n made kept = tt
refused_or false false true d k l m n made kept = tt
refused_or false false false true k l m n made kept = tt
refused_or false false false false k l m n made kept = kept

wake : (node : Node) (grain : Grain) → IsOfOneVersion node → After (at.wake node grain)
wake node grain is =
    refused_or (not (is_active_in node.view node.host.silo)) (is_some (held_of node.host grain))
    (is_full_of_activations node.settings node.host) (not (has_numbers node.settings node.host 1 && has_count node.settings node.host))
    804 801 806 805
    (at.started node grain None) (record { ring = is.ring; holding = is.holding })

close_held : (held : Option Held) (node : Node) (grain : Grain) → IsOfOneVersion node → After (at.close_held held node grain)
close_held None node grain is = tt
close_held (Some held) node grain is =
    refused_or false false (not (is_firm held.phase)) (not (has_numbers node.settings node.host 1)) 0 0 803 805 (at.closing node grain held)
    (record { ring = is.ring; holding = is.holding })

cancel_held : (held : Option Held) (node : Node) (grain : Grain) → IsOfOneVersion node → After (at.cancel_held held node grain)
cancel_held None node grain is = tt
cancel_held (Some held) node grain is =
    refused_or false false (not (is_asking held.phase)) (not (has_numbers node.settings node.host 1)) 0 0 808 805
    (at.cancelled node grain held) (record { ring = is.ring; holding = is.holding })

offer_held : (held : Option Held) (node : Node) (grain : Grain) (to : Silo) → IsOfOneVersion node → After (at.offer_held held node grain to)
offer_held None node grain to is = tt
offer_held (Some held) node grain to is =
    refused_or false (not (is_firm held.phase)) (not (is_active_in node.view to) || silo_eq to node.host.silo)
    (not (has_numbers node.settings node.host 1)) 0 803 807 805
    (at.offered node grain held to) (record { ring = is.ring; holding = is.holding })

find_by : (hint : Option ActivationId) (node : Node) (grain : Grain) → IsOfOneVersion node → After (at.find_by hint node grain)
find_by (Some activation) node grain is = record { ring = is.ring; holding = is.holding }
find_by None node grain is =
    refused_or false false (is_full_of_finds node.settings node.host) (not (has_numbers node.settings node.host 1)) 0 0 806 805
    (at.finding node grain) (record { ring = is.ring; holding = is.holding })

forget_hint : (hint : Option ActivationId) (node : Node) (grain : Grain) → IsOfOneVersion node → Kept (at.forget_hint hint node grain)
forget_hint None node grain is = is
forget_hint (Some activation) node grain is = record { ring = is.ring; holding = is.holding }

-- serving a request keeps the seen version
served_seen : (act : Act) (piece : Piece) (holding : Holding) (request : Request)
    → (served_by act piece holding request).holding.seen ≡ holding.seen
served_seen (Register entry previous) piece holding request = refl
served_seen (Deregister entry) piece holding request = refl
served_seen (Find grain) piece holding request = refl

answered_seen : (serving : Result Piece Why) (holding : Holding) (request : Request)
    → (answered_from serving holding request).holding.seen ≡ holding.seen
answered_seen (Ok piece) holding request = served_seen request.act piece holding request
answered_seen (Err why) holding request = refl

requested : (node : Node) (letter : Letter) (request : Request) → IsOfOneVersion node → Kept (rc.requested node letter request)
requested node letter request is =
    either (silo_eq request.sender letter.from && (request.version == letter.version))
    (rc.replying node request (answered node.holding request)) (at.silently node Ignored)
    (record { ring = is.ring; holding = answered_seen (serving_piece node.holding request) node.holding request ∙ is.holding }) is

confirmed_by : (found : Option (Grain × Held)) (node : Node) → IsOfOneVersion node → Kept (re.confirmed_by found node)
confirmed_by None node is = is
confirmed_by (Some e) node is = record { ring = is.ring; holding = is.holding }

yielded_by : (found : Option (Grain × Held)) (entry : Entry) (node : Node) → IsOfOneVersion node → Kept (re.yielded_by found entry node)
yielded_by None entry node is = is
yielded_by (Some e) entry node is = record { ring = is.ring; holding = is.holding }

ended_by : (found : Option (Grain × Held)) (node : Node) → IsOfOneVersion node → Kept (re.ended_by found node)
ended_by None node is = is
ended_by (Some e) node is = record { ring = is.ring; holding = is.holding }

at_seen : (version : ℕ) (node : Node) (stepped : at.Stepped) → IsOfOneVersion node → Kept stepped → Kept (re.at_seen version node stepped)
at_seen version node stepped is kept = either (version == node.view.version) _ _ kept is

replied : (node : Node) (version number : ℕ) (answer : Reply) → IsOfOneVersion node → Kept (re.replied node version number answer)
replied node version number (reply.Registered entry) is = at_seen version node _ is (confirmed_by (asking_under node.host number) node is)
replied node version number (reply.Taken entry) is = at_seen version node _ is (yielded_by (asking_under node.host number) entry node is)
replied node version number reply.Removed is = at_seen version node _ is (ended_by (closing_under node.host number) node is)
replied node version number reply.Absent is = at_seen version node _ is (ended_by (closing_under node.host number) node is)
replied node version number (reply.Found entry) is =
    at_seen version node _ is (either (is_finding node.host number) _ _ (record { ring = is.ring; holding = is.holding }) is)
replied node version number reply.Nothing is =
    at_seen version node _ is (either (is_finding node.host number) _ _ (record { ring = is.ring; holding = is.holding }) is)
replied node version number (reply.Retry why) is = either (is_outstanding node.host number) _ _ is is

asked_by : (answer : ShelfAnswer) (letter : Letter) (range : Range) (node : Node) → IsOfOneVersion node
    → Kept (tr.asked_by answer letter range node)
asked_by (Hands_page page) letter range node is = is
asked_by Has_none letter range node is = is
asked_by Is_behind letter range node is = is

gathered_by : (result : Gathered) (letter : Letter) (range : Range) (node : Node) → IsOfOneVersion node
    → Kept (tr.gathered_by result letter range node)
gathered_by (Wants_page gathering) letter range node is = record { ring = is.ring; holding = is.holding }
gathered_by (Has_all entries) letter range node is = record { ring = is.ring; holding = is.holding }
gathered_by (Refuses number gathering) letter range node is =
    either (number == 701) _ _ (record { ring = is.ring; holding = is.holding }) is

recovered_by : (result : Recovered) (report : Report) (node : Node) → IsOfOneVersion node → Kept (tr.recovered_by result report node)
recovered_by (Has_more recovery) report node is = record { ring = is.ring; holding = is.holding }
recovered_by (Awaits_more recovery) report node is = record { ring = is.ring; holding = is.holding }
recovered_by (Has_union table) report node is = record { ring = is.ring; holding = is.holding }
recovered_by (Rejects number) report node is = is

queried : (a b : Bool) (x y z : at.Stepped) → Kept x → Kept y → Kept z → Kept (cond a x (cond b y z))
queried true b x y z k l m = k
queried false true x y z k l m = l
queried false false x y z k l m = m

reported : (node : Node) (letter : Letter) (report : Report) → IsOfOneVersion node → Kept (tr.reported node letter report)
reported node letter report is =
    either (tr.is_report_awaited node letter report) _ _
    (recovered_by (recovered (recovery_of node report.range) report) report node is) is

surveyed : (ranges : List Range) (node : Node) (letter : Letter) → IsOfOneVersion node → Kept (tr.surveyed node letter ranges)
surveyed [] node letter is = is
surveyed (first ∷ others) node letter is =
    queried (nat_lt node.view.version letter.version) (nat_lt letter.version node.view.version)
    (tr.answering letter node (Behind_letter first) effect.Behind) (tr.answering letter node (Ahead_letter first) effect.Ahead)
    (record { node = node; letters = tr.tellings letter node (first ∷ others); effect = effect.Report }) is is is

emptied : (letter : Letter) (ranges : List Range) (node : Node) → IsOfOneVersion node → IsOfOneVersion (fold (tr.told_nothing letter) node ranges)
emptied letter [] node is = is
emptied letter (range ∷ ranges) node is =
    emptied letter ranges (tr.told_nothing letter node range) (reported node letter (tr.nothing_in letter range) is)

received : (body : Body) (node : Node) (letter : Letter) → IsOfOneVersion node → Kept (rc.received_body body node letter)
received (Request_letter request) node letter is = requested node letter request is
received (Reply_letter number answer) node letter is = replied node letter.version number answer is
received (Ask_letter range page) node letter is = asked_by _ letter range node is
received (Page_letter page) node letter is =
    either (tr.is_page_awaited node letter page) _ _ (gathered_by (gathered (gathering_of node page.range) page) letter page.range node is)
    is
received (Missing_letter range) node letter is =
    either (tr.awaits node letter.version range letter.from) _ _ (record { ring = is.ring; holding = is.holding }) is
received (Done_letter range) node letter is =
    either (has_snapshot node.shelf letter.version range letter.from)
    (at.silently (record node { shelf = shelf_without node.shelf letter.version range letter.from }) effect.Deleted)
    (at.silently node Ignored) (record { ring = is.ring; holding = is.holding }) is
received (Query_letter range after) node letter is =
    queried (nat_lt node.view.version letter.version) (nat_lt letter.version node.view.version)
    (tr.answering letter node (Behind_letter range) effect.Behind) (tr.answering letter node (Ahead_letter range) effect.Ahead)
    (tr.answering letter node (Report_letter (tr.report_of node range after)) effect.Report) is is is
received (Report_letter report) node letter is = reported node letter report is
received (Survey_letter ranges) node letter is = surveyed ranges node letter is
received (Empty_letter ranges) node letter is = emptied letter ranges node is
received (Behind_letter range) node letter is = is
received (Ahead_letter range) node letter is = is
received (Offer_letter entry) node letter is =
    either (rc.takes_offer node letter entry) _ _ (record { ring = is.ring; holding = is.holding }) is

stepped : (node : Node) (input : Input) → IsOfOneVersion node → After (step node input)
stepped node (Sees before view places) is =
    refused_or false false (not (nat_lt node.view.version view.version))
    (not (has_numbers node.settings node.host (length (outstanding node.host)))) 0 0 903 805
    (at.sight (is_next node.view before view node.host.silo) node before view places) (record { ring = refl; holding = refl })
stepped node (Does (Wake grain)) is = wake node grain is
stepped node (Does (Close grain)) is = close_held (held_of node.host grain) node grain is
stepped node (Does (Cancel grain)) is = cancel_held (held_of node.host grain) node grain is
stepped node (Does (Find grain)) is = find_by (hint_of node.cache grain) node grain is
stepped node (Does (Forget grain)) is = forget_hint (hint_of node.cache grain) node grain is
stepped node (Does Nudge) is =
    refused_or false false false (not (has_numbers node.settings node.host (length (outstanding node.host)))) 0 0 0 805
    (at.having_nudged (record node { host = renewed node.host })) (record { ring = is.ring; holding = is.holding })
stepped node (Does (NudgeGrain grain)) is =
    refused_or false false false (not (has_numbers node.settings node.host (length (requests_about grain node.host)))) 0 0 0 805
    (at.having_nudged_grain (record node { host = renewed_about grain node.host }) grain) (record { ring = is.ring; holding = is.holding })
stepped node (Does NudgeRanges) is = record { ring = is.ring; holding = is.holding }
stepped node (Does (Offer grain to)) is = offer_held (held_of node.host grain) node grain to is
stepped node (Receives letter) is = received letter.body node letter is

one_version_keeps : StepsKeep IsOfOneVersion
one_version_keeps = record {
  new = λ settings silo. record { ring = refl; holding = refl };
  stepping = λ node input result is ok. subst After ok (stepped node input is);
}

pub one_version : NodesAreOfOneVersion
one_version settings events = each_after IsOfOneVersion one_version_keeps settings events
