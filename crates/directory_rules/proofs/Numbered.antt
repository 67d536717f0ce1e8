-- Every step keeps the numbers of a host's requests distinct, and below the host's next number.
use Rattle.std.proofs.Common.{arith, ◌≡◌, ◌≢◌, sym, ap, subst, ◌∙◌, ℕ, List, [], ◌∷◌, ◌+◌, ◌≤◌, ◌<◌, length, map, length-append}
use Rattle.std.specs.Prelude.{All, AllPairs, nat_lt, fold, ◌||◌, Bool, true, false, cond, not, ◌==◌, ◌&&◌, is_some, Option, Some, None, Result, Ok, Err, IfOk}
use Rattle.std.specs.Ordering.{nat_cmp}
use Rattle.std.specs.Map.{keys_of}
use Rattle.std.specs.BTreeMap.{is_at}
use Rattle.std.proofs.lemmas.Bool.{ltb-true, ltb-false}
use Rattle.std.proofs.lemmas.List.Elements.{All-nil, All-cons}
use Rattle.std.proofs.lemmas.List.Kept.{AllPairs-cons}
use Rattle.silo_address.specs.Silo.{Silo, silo_cmp, silo_eq}
use Rattle.silo_address.specs.Grain.{Grain, grain_cmp}
use Rattle.silo_address.specs.declared.ActivationId.{ActivationId}
use Rattle.silo_address.specs.declared.Entry.{Entry}
use Rattle.ring_range.specs.Range.{Range}
use Rattle.hash_ring.specs.Ring.{is_active_in}
use Rattle.directory_rules.specs.declared.act.Act.{Act}
use Rattle.directory_rules.specs.declared.act.Act.TheVariants.{Find}
use Rattle.directory_rules.specs.declared.held.Held.{Held}
use Rattle.directory_rules.specs.declared.held.Phase.TheVariants.{Firm}
use Rattle.directory_rules.specs.declared.reply.Reply.{Reply}
use Rattle.directory_rules.specs.declared.reply.Reply.TheVariants as reply
use Rattle.directory_rules.specs.declared.effect.Effect.TheVariants.{Ignored}
use Rattle.directory_rules.specs.declared.effect.Effect.TheVariants as effect
use Rattle.directory_rules.specs.Sight.{is_next}
use Rattle.directory_rules.specs.Snapshot.{ShelfAnswer, Hands_page, Has_none, Is_behind, has_snapshot, shelf_without}
use Rattle.directory_rules.specs.Gatherings.{Gathered, Wants_page, Has_all, Refuses, gathered}
use Rattle.directory_rules.specs.Recovery.{Recovered, Has_more, Awaits_more, Has_union, Rejects, recovered}
use Rattle.directory_rules.specs.Answer.{answered}
use Rattle.directory_rules.specs.State.{Report, Body, Request_letter, Reply_letter, Ask_letter, Page_letter, Missing_letter, Done_letter, Query_letter, Report_letter, Survey_letter, Empty_letter, Behind_letter, Ahead_letter, Offer_letter, Letter, Node, Host}
use Rattle.directory_rules.specs.Step as at
use Rattle.directory_rules.specs.Reply as re
use Rattle.directory_rules.specs.Transfer as tr
use Rattle.directory_rules.specs.Receive as rc
use Rattle.directory_rules.specs.Sent.{gathering_of, recovery_of}
use Rattle.directory_rules.specs.Host.{held_acts, find_acts, next_held, next_closing, without_held, with_started, with_closing, with_find, without_find, confirmed, renewed, new_number, renewed_about, outstanding, requests_about, is_firm, is_asking, has_numbers, has_count, is_full_of_activations, is_full_of_finds, held_of, asking_under, closing_under, is_finding, is_outstanding}
use Rattle.directory_rules.specs.Cache.{hint_of}
use Rattle.directory_rules.specs.Input.{Input, Sees, Does, Receives, step}
use Rattle.directory_rules.specs.Run.{run_from_start}
use Rattle.directory_rules.specs.Laws.{requests_of, AreNumbered, NumbersAreDistinct}
use Rattle.directory_rules.proofs.Cases.{on_bool}
use Rattle.directory_rules.proofs.Nodes.{StepsKeep, each_after, of_found}
use Rattle.directory_rules.proofs.RequestNumbers.{one, one_same, one_cases, times, times_append, times_mapped, times_keys, times_removed, times_set, times_pushed, times_unfound, times_put_most, numbers}
use Rattle.directory_rules.specs.declared.own_step.OwnStep.TheVariants.{Wake, Close, Cancel, Find, Forget, Nudge, NudgeGrain, NudgeRanges, Offer}
use Rattle.directory_rules.proofs.GrainRenewal.{renewed_about_times, times_apart, new_once, new_above, new_below}
use Rattle.directory_rules.proofs.Renewal.{held_numbers, same_keys, mapped_keys, length_put_all, renewed_numbers, request_numbers, renewed_once, renewed_below}

-- a number occurs once at most, and none from the next one on
pub record AreDistinct (next : ℕ) (held : List (Grain × Held)) (finds : List (ℕ × Grain)) : Type 0 where
  pub once : (n : ℕ) → times n (numbers held) + times n (keys_of finds) ≤ 1
  pub below : (n : ℕ) → next ≤ n → times n (numbers held) + times n (keys_of finds) ≡ 0

abbrev pub Numbered : Host → Type 0
Numbered host = AreDistinct host.next_number host.held host.finds

-- ---- What a step does to the host.
no_more : (next : ℕ) (held left : List (Grain × Held)) (finds rest : List (ℕ × Grain))
    → ((n : ℕ) → times n (numbers left) + times n (keys_of rest) ≤ times n (numbers held) + times n (keys_of finds))
    → AreDistinct next held finds → AreDistinct next left rest
no_more next held left finds rest fewer is = record {
  once = λ n. let now = fewer n in let before = is.once n in omega (now, before, arith);
  below = λ n le. let now = fewer n in let before = is.below n le in omega (now, before, arith);
}

one_more : (next : ℕ) (held more : List (Grain × Held)) (finds rest : List (ℕ × Grain))
    → ((n : ℕ) → times n (numbers more) + times n (keys_of rest) ≤ times n (numbers held) + times n (keys_of finds) + one n next)
    → AreDistinct next held finds → AreDistinct (next + 1) more rest
one_more next held more finds rest most is = record {
  once = λ n.
      one_cases (λ r. times n (numbers more) + times n (keys_of rest) ≤ times n (numbers held) + times n (keys_of finds) + r
      → times n (numbers more) + times n (keys_of rest) ≤ 1) n next
      (λ same now. let le : next ≤ n = omega (same, arith) in let before = is.below n le in omega (now, before, arith))
      (λ now. let before = is.once n in omega (now, before, arith)) (most n);
  below = λ n le.
      one_cases (λ r. times n (numbers more) + times n (keys_of rest) ≤ times n (numbers held) + times n (keys_of finds) + r
      → times n (numbers more) + times n (keys_of rest) ≡ 0) n next
      (λ same now. absurd (omega (same, le, arith)))
      (λ now. let lower : next ≤ n = omega (le, arith) in let before = is.below n lower in omega (now, before, arith)) (most n);
}

started : (host : Host) (grain : Grain) (previous : Option ActivationId) → Numbered host → Numbered (with_started host grain previous)
started host grain previous is =
    one_more host.next_number host.held (with_started host grain previous).held host.finds host.finds
    (λ n. let pushed = times_pushed n host.held (grain, next_held host previous) in omega (pushed, arith)) is

closing : (host : Host) (grain : Grain) (held : Held) → Numbered host → Numbered (with_closing host grain held)
closing host grain held is =
    one_more host.next_number host.held (with_closing host grain held).held host.finds host.finds
    (λ n. let set = times_set n (is_at (grain_cmp grain)) host.held (next_closing host held) in omega (set, arith)) is

finding : (host : Host) (grain : Grain) → Numbered host → Numbered (with_find host grain)
finding host grain is =
    one_more host.next_number host.held host.held host.finds (with_find host grain).finds
    (λ n. let put = times_put_most n host.finds host.next_number grain in omega (put, arith)) is

removed : (host : Host) (grain : Grain) → Numbered host → Numbered (without_held host grain)
removed host grain is =
    no_more host.next_number host.held (without_held host grain).held host.finds host.finds
    (λ n. let fewer = times_removed n (is_at (grain_cmp grain)) host.held in omega (fewer, arith)) is

unfound : (host : Host) (number : ℕ) → Numbered host → Numbered (without_find host number)
unfound host number is =
    no_more host.next_number host.held host.held host.finds (without_find host number).finds
    (λ n. let fewer = times_unfound n (is_at (nat_cmp number)) host.finds in omega (fewer, arith)) is

firm : (host : Host) (grain : Grain) (held : Held) → Numbered host → Numbered (confirmed host grain held)
firm host grain held is =
    no_more host.next_number host.held (confirmed host grain held).held host.finds host.finds
    (λ n. let set = times_set n (is_at (grain_cmp grain)) host.held (record held { phase = Firm; previous = None }) in omega (set, arith))
    is

renewed_times : (host : Host) (n : ℕ) → times n (map (new_number host) (request_numbers host)) ≡ times n (numbers (renewed host).held) +
    times n (keys_of (renewed host).finds)
renewed_times host n =
    let both = times_mapped n (new_number host) (numbers host.held) (keys_of host.finds) in
    let first = ap (times n) (renewed_numbers host host.held) in
    let second = ap (times n) (mapped_keys (new_number host) (λ grain. grain) host.finds) in
    omega (both, first, second, arith)

renews : (host : Host) → Numbered host → Numbered (renewed host)
renews host is = record {
  once = λ n. let times = renewed_times host n in let few = renewed_once host old n in omega (times, few, arith);
  below = λ n le. sym (renewed_times host n) ∙ renewed_below host n le;
} where
  old : (n : ℕ) → times n (request_numbers host) ≤ 1
  old n = let both = times_append n (numbers host.held) (keys_of host.finds) in let few = is.once n in omega (both, few, arith)

renews_about : (host : Host) (grain : Grain) → Numbered host → Numbered (renewed_about grain host)
renews_about host grain is = record {
  once = λ n.
      let all = renewed_about_times grain host n in let apart = times_apart grain host n in let few = is.once n in
      on_bool (λ b. times n (numbers (renewed_about grain host).held) + times n (keys_of (renewed_about grain host).finds) ≤ 1)
      (nat_lt n host.next_number)
      (λ t. let none = new_above grain host n (ltb-true n host.next_number t) in omega (all, apart, few, none, arith))
      (λ f. let gone = is.below n (ltb-false n host.next_number f) in let new = new_once grain host is.once n in
      omega (all, apart, gone, new, arith));
  below = λ n le.
      let all = renewed_about_times grain host n in let apart = times_apart grain host n in
      let gone = is.below n (omega (le, arith)) in let none = new_below grain host is.once n le in omega (all, apart, gone, none, arith);
}

-- ---- What each step keeps.
abbrev Kept : at.Stepped → Type 0
Kept stepped = Numbered stepped.node.host

abbrev After : Result at.Stepped ℕ → Type 0
After result = IfOk result Kept

either : (b : Bool) (left right : at.Stepped) → Kept left → Kept right → Kept (cond b left right)
either true left right k l = k
either false left right k l = l

-- up to four refusals come before the step
refused_or : (a b c d : Bool) (k l m n : ℕ) (made : at.Stepped) → Kept made
    → After (cond a (Err k) (cond b (Err l) (cond c (Err m) (cond d (Err n) (Ok made)))))
refused_or true b c d k l m n made kept = tt
refused_or false true c d k l m n made kept = tt
refused_or false false true d k l m n made kept = tt
refused_or false false false true k l m n made kept = tt
refused_or false false false false k l m n made kept = kept

wake : (node : Node) (grain : Grain) → Numbered node.host → After (at.wake node grain)
wake node grain is =
    refused_or (not (is_active_in node.view node.host.silo)) (is_some (held_of node.host grain))
    (is_full_of_activations node.settings node.host) (not (has_numbers node.settings node.host 1 && has_count node.settings node.host))
    804 801 806 805
    (at.started node grain None) (started node.host grain None is)

close_held : (held : Option Held) (node : Node) (grain : Grain) → Numbered node.host → After (at.close_held held node grain)
close_held None node grain is = tt
close_held (Some held) node grain is =
    refused_or false false (not (is_firm held.phase)) (not (has_numbers node.settings node.host 1)) 0 0 803 805 (at.closing node grain held)
    (closing node.host grain held is)

cancel_held : (held : Option Held) (node : Node) (grain : Grain) → Numbered node.host → After (at.cancel_held held node grain)
cancel_held None node grain is = tt
cancel_held (Some held) node grain is =
    refused_or false false (not (is_asking held.phase)) (not (has_numbers node.settings node.host 1)) 0 0 808 805
    (at.cancelled node grain held) (closing node.host grain held is)

offer_held : (held : Option Held) (node : Node) (grain : Grain) (to : Silo) → Numbered node.host → After (at.offer_held held node grain to)
offer_held None node grain to is = tt
offer_held (Some held) node grain to is =
    refused_or false (not (is_firm held.phase)) (not (is_active_in node.view to) || silo_eq to node.host.silo)
    (not (has_numbers node.settings node.host 1)) 0 803 807 805
    (at.offered node grain held to) (closing node.host grain held is)

find_by : (hint : Option ActivationId) (node : Node) (grain : Grain) → Numbered node.host → After (at.find_by hint node grain)
find_by (Some activation) node grain is = is
find_by None node grain is =
    refused_or false false (is_full_of_finds node.settings node.host) (not (has_numbers node.settings node.host 1)) 0 0 806 805
    (at.finding node grain) (finding node.host grain is)

forget_hint : (hint : Option ActivationId) (node : Node) (grain : Grain) → Numbered node.host → Kept (at.forget_hint hint node grain)
forget_hint None node grain is = is
forget_hint (Some activation) node grain is = is

confirmed_by : (found : Option (Grain × Held)) (node : Node) → Numbered node.host → Kept (re.confirmed_by found node)
confirmed_by None node is = is
confirmed_by (Some e) node is = firm node.host e.0 e.1 is

yielded_by : (found : Option (Grain × Held)) (entry : Entry) (node : Node) → Numbered node.host → Kept (re.yielded_by found entry node)
yielded_by None entry node is = is
yielded_by (Some e) entry node is = removed node.host e.0 is

ended_by : (found : Option (Grain × Held)) (node : Node) → Numbered node.host → Kept (re.ended_by found node)
ended_by None node is = is
ended_by (Some e) node is = removed node.host e.0 is

at_seen : (version : ℕ) (node : Node) (stepped : at.Stepped) → Numbered node.host → Kept stepped → Kept (re.at_seen version node stepped)
at_seen version node stepped is kept = either (version == node.view.version) _ _ kept is

replied : (node : Node) (version number : ℕ) (answer : Reply) → Numbered node.host → Kept (re.replied node version number answer)
replied node version number (reply.Registered entry) is = at_seen version node _ is (confirmed_by (asking_under node.host number) node is)
replied node version number (reply.Taken entry) is = at_seen version node _ is (yielded_by (asking_under node.host number) entry node is)
replied node version number reply.Removed is = at_seen version node _ is (ended_by (closing_under node.host number) node is)
replied node version number reply.Absent is = at_seen version node _ is (ended_by (closing_under node.host number) node is)
replied node version number (reply.Found entry) is =
    at_seen version node _ is (either (is_finding node.host number) _ _ (unfound node.host number is) is)
replied node version number reply.Nothing is =
    at_seen version node _ is (either (is_finding node.host number) _ _ (unfound node.host number is) is)
replied node version number (reply.Retry why) is = either (is_outstanding node.host number) _ _ is is

asked_by : (answer : ShelfAnswer) (letter : Letter) (range : Range) (node : Node) → Numbered node.host
    → Kept (tr.asked_by answer letter range node)
asked_by (Hands_page page) letter range node is = is
asked_by Has_none letter range node is = is
asked_by Is_behind letter range node is = is

gathered_by : (result : Gathered) (letter : Letter) (range : Range) (node : Node) → Numbered node.host
    → Kept (tr.gathered_by result letter range node)
gathered_by (Wants_page gathering) letter range node is = is
gathered_by (Has_all entries) letter range node is = is
gathered_by (Refuses number gathering) letter range node is = either (number == 701) _ _ is is

recovered_by : (result : Recovered) (report : Report) (node : Node) → Numbered node.host → Kept (tr.recovered_by result report node)
recovered_by (Has_more recovery) report node is = is
recovered_by (Awaits_more recovery) report node is = is
recovered_by (Has_union table) report node is = is
recovered_by (Rejects number) report node is = is

queried : (a b : Bool) (x y z : at.Stepped) → Kept x → Kept y → Kept z → Kept (cond a x (cond b y z))
queried true b x y z k l m = k
queried false true x y z k l m = l
queried false false x y z k l m = m

reported : (node : Node) (letter : Letter) (report : Report) → Numbered node.host → Kept (tr.reported node letter report)
reported node letter report is =
    either (tr.is_report_awaited node letter report) _ _
    (recovered_by (recovered (recovery_of node report.range) report) report node is) is

surveyed : (ranges : List Range) (node : Node) (letter : Letter) → Numbered node.host → Kept (tr.surveyed node letter ranges)
surveyed [] node letter is = is
surveyed (first ∷ others) node letter is =
    queried (nat_lt node.view.version letter.version) (nat_lt letter.version node.view.version)
    (tr.answering letter node (Behind_letter first) effect.Behind) (tr.answering letter node (Ahead_letter first) effect.Ahead)
    (record { node = node; letters = tr.tellings letter node (first ∷ others); effect = effect.Report }) is is is

emptied : (letter : Letter) (ranges : List Range) (node : Node) → Numbered node.host → Numbered (fold (tr.told_nothing letter) node ranges).host
emptied letter [] node is = is
emptied letter (range ∷ ranges) node is =
    emptied letter ranges (tr.told_nothing letter node range) (reported node letter (tr.nothing_in letter range) is)

received : (body : Body) (node : Node) (letter : Letter) → Numbered node.host → Kept (rc.received_body body node letter)
received (Request_letter request) node letter is =
    either (silo_eq request.sender letter.from && (request.version == letter.version))
    (rc.replying node request (answered node.holding request)) (at.silently node Ignored) is is
received (Reply_letter number answer) node letter is = replied node letter.version number answer is
received (Ask_letter range page) node letter is = asked_by _ letter range node is
received (Page_letter page) node letter is =
    either (tr.is_page_awaited node letter page) _ _ (gathered_by (gathered (gathering_of node page.range) page) letter page.range node is)
    is
received (Missing_letter range) node letter is = either (tr.awaits node letter.version range letter.from) _ _ is is
received (Done_letter range) node letter is =
    either (has_snapshot node.shelf letter.version range letter.from)
    (at.silently (record node { shelf = shelf_without node.shelf letter.version range letter.from }) effect.Deleted)
    (at.silently node Ignored) is is
received (Query_letter range after) node letter is =
    queried (nat_lt node.view.version letter.version) (nat_lt letter.version node.view.version)
    (tr.answering letter node (Behind_letter range) effect.Behind) (tr.answering letter node (Ahead_letter range) effect.Ahead)
    (tr.answering letter node (Report_letter (tr.report_of node range after)) effect.Report) is is is
received (Report_letter report) node letter is = reported node letter report is
received (Survey_letter ranges) node letter is = surveyed ranges node letter is
received (Empty_letter ranges) node letter is = emptied letter ranges node is
received (Behind_letter range) node letter is = is
received (Ahead_letter range) node letter is = is
received (Offer_letter entry) node letter is =
    either (rc.takes_offer node letter entry) _ _ (started node.host entry.grain (Some entry.activation) is) is

stepped : (node : Node) (input : Input) → Numbered node.host → After (step node input)
stepped node (Sees before view places) is =
    refused_or false false (not (nat_lt node.view.version view.version))
    (not (has_numbers node.settings node.host (length (outstanding node.host)))) 0 0 903 805
    (at.sight (is_next node.view before view node.host.silo) node before view places) (renews node.host is)
stepped node (Does (Wake grain)) is = wake node grain is
stepped node (Does (Close grain)) is = close_held (held_of node.host grain) node grain is
stepped node (Does (Cancel grain)) is = cancel_held (held_of node.host grain) node grain is
stepped node (Does (Find grain)) is = find_by (hint_of node.cache grain) node grain is
stepped node (Does (Forget grain)) is = forget_hint (hint_of node.cache grain) node grain is
stepped node (Does Nudge) is =
    refused_or false false false (not (has_numbers node.settings node.host (length (outstanding node.host)))) 0 0 0 805
    (at.having_nudged (record node { host = renewed node.host })) (renews node.host is)
stepped node (Does (NudgeGrain grain)) is =
    refused_or false false false (not (has_numbers node.settings node.host (length (requests_about grain node.host)))) 0 0 0 805
    (at.having_nudged_grain (record node { host = renewed_about grain node.host }) grain) (renews_about node.host grain is)
stepped node (Does NudgeRanges) is = is
stepped node (Does (Offer grain to)) is = offer_held (held_of node.host grain) node grain to is
stepped node (Receives letter) is = received letter.body node letter is

pub numbered_keeps : StepsKeep (λ node. Numbered node.host)
numbered_keeps = record {
  new = λ settings silo. record { once = λ n. omega arith; below = λ n le. omega arith };
  stepping = λ node input result is ok. subst After ok (stepped node input is);
}

-- ---- The law, from how often a number occurs.
held_times : (host : Host) (n : ℕ) → times n (keys_of (held_acts host)) ≡ times n (numbers host.held)
held_times host n = ap (times n) (held_numbers host host.held)

find_times : (host : Host) (n : ℕ) → times n (keys_of (find_acts host)) ≡ times n (keys_of host.finds)
find_times host n = ap (times n) (same_keys (λ grain. Find grain) host.finds)

requests_times : (host : Host) (n : ℕ) → times n (keys_of (requests_of host)) ≡ times n (numbers host.held) + times n (keys_of host.finds)
requests_times host n =
    let both = times_keys n (held_acts host) (find_acts host) in let first = held_times host n in let second = find_times host n in
    omega (both, first, second, arith)

all_outstanding : (host : Host) → Numbered host → length (outstanding host) ≡ length (requests_of host)
all_outstanding host is =
    length_put_all (find_acts host) (held_acts host)
    (λ n. let first = held_times host n in let second = find_times host n in let few = is.once n in omega (first, second, few, arith))
    ∙ sym (length-append (held_acts host) (find_acts host))

all_so : (P : ℕ → Type 0) (es : List (ℕ × Act)) → ((n : ℕ) → 1 ≤ times n (keys_of es) → P n) → All (λ e. P e.0) es
all_so P [] so = All-nil _
all_so P (e ∷ es) so =
    let same = one_same e.0 in
    All-cons (λ x. P x.0) e es (so e.0 (omega (same, arith))) (all_so P es (λ n later. so n (omega (later, arith))))

all_apart : (es : List (ℕ × Act)) → ((n : ℕ) → times n (keys_of es) ≤ 1) → AllPairs (λ e later. e.0 ≢ later.0) es
all_apart [] once = λ i j d lt short. absurd (omega (short, arith))
all_apart (e ∷ es) once =
    AllPairs-cons (λ x later. x.0 ≢ later.0) e es
    (all_so (λ n. e.0 ≢ n) es (λ n later same.
    let here = subst (λ i. one n i ≡ 1) (sym same) (one_same n) in let few = once n in omega (here, later, few, arith)))
    (all_apart es (λ n. let few = once n in omega (few, arith)))

all_below : (next : ℕ) (es : List (ℕ × Act)) → ((n : ℕ) → next ≤ n → times n (keys_of es) ≡ 0) → All (λ e. e.0 < next) es
all_below next es below =
    all_so (λ n. n < next) es (λ n there.
    on_bool (λ b. n < next) (nat_lt n next) (λ t. ltb-true n next t)
    (λ f. let high = ltb-false n next f in let none = below n (omega (high, arith)) in omega (there, none, arith)))

pub are_numbered : (host : Host) → Numbered host → AreNumbered host
are_numbered host is = record {
  distinct = all_apart (requests_of host) (λ n. let times = requests_times host n in let few = is.once n in omega (times, few, arith));
  many = all_outstanding host is;
  below = all_below host.next_number (requests_of host) (λ n le. requests_times host n ∙ is.below n le);
}

pub numbers_are_distinct : NumbersAreDistinct
numbers_are_distinct settings events silo node there =
    are_numbered node.host (of_found (λ x. Numbered x.host) (is_at (silo_cmp silo)) (run_from_start settings events).world.nodes node
    (each_after (λ x. Numbered x.host) numbered_keeps settings events) there)
