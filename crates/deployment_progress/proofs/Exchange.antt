-- In an exchange each range of the silo gets on.
use Rattle.std.proofs.Common.{arith, ◌≡◌, ℕ, ◌<◌, List, ◌++◌, refl, sym, ap, ◌∙◌, subst, ◌⊎◌, inl, inr}
use Rattle.std.specs.Prelude.{slice_get, Contains, Some}
use Rattle.silo_address.specs.Silo.{Silo}
use Rattle.ring_range.specs.Range.{Range}
use Rattle.hash_ring.specs.Hash.{hash_grain}
use Rattle.directory_rules.specs.Settings.{Settings}
use Rattle.directory_rules.specs.State.{Letter, Ask_letter, Node}
use Rattle.directory_rules.specs.Recovery.{told_by}
use Rattle.directory_rules.specs.Sent.{letter_to, query_to, gathering_of, recovery_of, all_wants}
use Rattle.directory_rules.specs.Step.{Stepped}
use Rattle.directory_rules.specs.Membership.{Membership}
use Rattle.progress_rules.specs.Waits.{Recovers, Awaits, IsFurther, IsUpTo}
use Rattle.progress_rules.specs.Gathers.{AwaitsFrom}
use Rattle.progress_rules.proofs.Gathers.{asked_again}
use Rattle.progress_rules.proofs.Told.{further_up_to, up_to_further}
use Rattle.progress_rules.proofs.Waits.{queried_again}
use Rattle.deployment_headline.specs.Deployment.{Deployment}
use Rattle.deployment_headline.specs.Steps.{Step, Do, after, after_all}
use Rattle.deployment_progress.specs.Exchanges.{IsAnswered, IsWant, IsNudged, IsExchange}
use Rattle.deployment_progress.specs.Waits.{HasSettled, WaitsForLess}
use Rattle.deployment_progress.proofs.Less.{waits_on}
use Rattle.deployment_progress.proofs.States.{not_settled_and_recovers}
use Rattle.deployment_progress.proofs.Rest.{node_at, IsAtRest}
use Rattle.deployment_progress.proofs.Quiet.{quiet_moves}
use Rattle.deployment_progress.proofs.Later.{its_version, its_silo, stepped_on, IsQuiet, rests_after, later_so, stays_written, same_membership}
use Rattle.deployment_progress.proofs.Back.{query_back, ask_back}
use Rattle.deployment_progress.proofs.Shelves.{AreAtMost, step_at_most, still_at_most}
use Rattle.deployment_progress.proofs.Awaited.{awaited_there, giver_there, awaits_some}
use Rattle.deployment_progress.proofs.Nudged.{quiet_after, nudged_rests, nudge_taken, nudged_there, sends_wants, after_nudge}
use Rattle.deployment_progress.proofs.Letters.{got_right, quiet_before, quiet_between, b_rests, at_ask, at_answer, to_answer, to_end}

module _ (d : Deployment) (r : IsAtRest d) (silo : Silo) (steps : List Step) (q : IsQuiet steps) (x : IsExchange d silo steps) where
  abbrev n : IsNudged d silo x.part steps
  n = x.nudge

  abbrev d1 : Deployment
  d1 = after d (Do silo x.part)

  abbrev first : Node
  first = n.process.node

  abbrev node1 : Node
  node1 = n.nudged.node

  abbrev quiet_x : IsQuiet n.rest
  quiet_x = quiet_after d r silo x.part steps q n

  abbrev r1 : IsAtRest d1
  r1 = nudged_rests d r silo x.part steps q n

  abbrev there1 : node_at d1 silo ≡ Some node1
  there1 = nudged_there d r silo x.part steps q n

  pub less1 : WaitsForLess first node1
  less1 =
      let came = nudge_taken d r silo x.part steps q n in
      subst (λ (n : Node). WaitsForLess n node1) came.2
      (subst (λ (t : Stepped). WaitsForLess came.0.node t.node) came.1 (stepped_on d r silo (Do silo x.part) d1 came.0).less)

  -- what the pieces want is written, and answered
  wants : (letter : Letter) → Contains (all_wants node1) letter → IsWant letter.body
      → (index : ℕ) × (slice_get d1.written index ≡ Some letter) × IsAnswered d1 silo n.rest index letter
  wants letter has want =
      let came = nudge_taken d r silo x.part steps q n in
      let sent : Contains n.nudged.letters letter = sends_wants x.part x.wants first n.nudged came.3 letter has in
      let got = got_right d.written n.nudged.letters letter sent in
      let found : slice_get d1.written got.0 ≡ Some letter = ap (λ ls. slice_get ls got.0) (came.0.written ∙ ap (λ (t : Stepped). d.written ++ t.letters) came.1) ∙ got.2 in
      (got.0, found, x.answered got.0 letter got.1 found want)

  module _ (last : Node) (at : node_at (after_all d steps) silo ≡ Some last) where
    at1 : node_at (after_all d1 n.rest) silo ≡ Some last
    at1 = ap (λ y. node_at y silo) (sym (after_nudge d r silo x.part steps q n)) ∙ at

    less_to_last : WaitsForLess node1 last
    less_to_last =
        let e = later_so d1 r1 n.rest quiet_x silo node1 there1 in
        let put = e.there in
        let same : e.node ≡ last = cc (at1, put) in
        subst (WaitsForLess node1) same e.less

    pub less_all : WaitsForLess first last
    less_all = waits_on first node1 last less1 less_to_last

    last_rests_so : IsAtRest (after_all d steps)
    last_rests_so = rests_after d r steps q

    -- a silo that was awaited when the nudge came, and is still, has told further
    report_came : (range : Range) (other : Silo) → Awaits node1 range other → Awaits last range other
        → IsFurther (hash_grain node1.settings.hashing) range (told_by other (recovery_of node1 range)) (told_by other (recovery_of last range))
    report_came range other waits waits_last =
        let behind = told_by other (recovery_of node1 range) in
        let letter = query_to node1 range other in
        let it = wants letter (queried_again node1 range other waits) tt in
        let a = it.2 in
        let asks = at_ask d1 r1 silo n.rest quiet_x it.0 letter a node1 there1 in
        let answers = at_answer d1 r1 silo n.rest quiet_x it.0 letter a node1 there1 in
        let before = quiet_before d1 r1 silo n.rest quiet_x it.0 letter a node1 there1 in
        let rests = b_rests d1 r1 silo n.rest quiet_x it.0 letter a node1 there1 in
        let to_last = to_end d1 r1 silo n.rest quiet_x it.0 letter a node1 there1 last at1 in
        let to_it = to_answer d1 r1 silo n.rest quiet_x it.0 letter a node1 there1 in
        let other_there = awaited_there d1 r1 silo node1 there1 range other waits in
        let other_then = later_so d1 r1 a.before before other other_there.0 other_there.1 in
        let asking : Recovers asks.node range = still_recovers node1 asks.node last range asks.less (waits_on asks.node answers.node last to_it to_last) waits.recovers waits_last.recovers in
        let answered : Recovers answers.node range = still_recovers asks.node answers.node last range to_it to_last asking waits_last.recovers in
        let awaited = to_last.reports range other answered waits_last in
        let told = told_by other (recovery_of answers.node range) in
        let comes = query_back (after_all d1 a.before) rests other it.0 a.between (quiet_between d1 r1 silo n.rest quiet_x it.0 letter a node1 there1)
        silo silo range behind letter other_then.node asks.node answers.node refl other_then.there
        (stays_written d1 r1 a.before before it.0 letter it.1)
        (record {
          from = its_silo d1 r1 silo node1 there1;
          to = refl;
          version_is =
              its_version d1 r1 silo node1 there1 ∙ ap (λ (m : Membership). m.views.version) (sym (same_membership d1 r1 a.before before));
          body = refl;
        })
        asks.there asking
        (subst (λ (s : Settings). IsUpTo (hash_grain s.hashing) range behind (told_by other (recovery_of asks.node range)))
        (sym asks.less.settings) (asks.less.told range other waits.recovers (to_it.reports range other asking awaited)))
        answers.there awaited in
        let further : IsFurther (hash_grain node1.settings.hashing) range behind told = subst (λ (s : Settings). IsFurther (hash_grain s.hashing) range behind told) asks.less.settings comes in
        let on : IsUpTo (hash_grain node1.settings.hashing) range told (told_by other (recovery_of last range)) =
        subst (λ (s : Settings). IsUpTo (hash_grain s.hashing) range told (told_by other (recovery_of last range)))
        (to_it.settings ∙ asks.less.settings) (to_last.told range other answered waits_last) in
        further_up_to (hash_grain node1.settings.hashing) range behind told (told_by other (recovery_of last range)) further on
      where
        still_recovers : (one two three : Node) (range : Range) → WaitsForLess one two → WaitsForLess two three → Recovers one range
            → Recovers three range → Recovers two range
        still_recovers one two three range a b was is =
            elim (a.recovers range was) [
              | inl still ↦ still
              | inr settled ↦ absurd
                  (not_settled_and_recovers three range (b.settled range settled) is)
            ]

    -- so it has since the exchange began
    pub told_further : (range : Range) (other : Silo) → Recovers first range → Awaits last range other
        → IsFurther (hash_grain first.settings.hashing) range (told_by other (recovery_of first range)) (told_by other (recovery_of last range))
    told_further range other was waits_last =
        let told = told_by other (recovery_of node1 range) in
        let still : Recovers node1 range = elim (less1.recovers range was) [ inl still ↦ still | inr settled ↦ absurd (not_settled_and_recovers last range (less_to_last.settled range settled) waits_last.recovers) ] in
        let waits = less_to_last.reports range other still waits_last in
        let further : IsFurther (hash_grain first.settings.hashing) range told (told_by other (recovery_of last range)) =
        subst (λ (s : Settings). IsFurther (hash_grain s.hashing) range told (told_by other (recovery_of last range))) less1.settings
        (report_came range other waits waits_last) in
        up_to_further (hash_grain first.settings.hashing) range (told_by other (recovery_of first range)) told
        (told_by other (recovery_of last range)) (less1.told range other was waits) further

    -- a range that recovered is settled, or somebody is awaited still
    pub recovers_on : (range : Range) → Recovers first range → HasSettled last range ⊎ ((other : Silo) × Awaits last range other)
    recovers_on range was =
        elim (less_all.recovers range was) [
          | inr settled ↦ inl settled
          | inl recovers ↦ inr (awaits_some (after_all d steps) last_rests_so silo last at range recovers)
        ]

    -- a page more, and it was one of so many
    pub pages_come : (pages : ℕ) → AreAtMost pages d → (range : Range) (giver : Silo) → AwaitsFrom last range giver
        → ((gathering_of first range).next < (gathering_of last range).next) × ((gathering_of first range).next < pages)
    pages_come pages shelves range giver waits_last =
        let was = less_to_last.pages range giver waits_last in
        let letter = letter_to giver node1 (Ask_letter range (gathering_of node1 range).next) in
        let it = wants letter (asked_again node1 range giver was.0) tt in
        let a = it.2 in
        let asks = at_ask d1 r1 silo n.rest quiet_x it.0 letter a node1 there1 in
        let answers = at_answer d1 r1 silo n.rest quiet_x it.0 letter a node1 there1 in
        let before = quiet_before d1 r1 silo n.rest quiet_x it.0 letter a node1 there1 in
        let rests = b_rests d1 r1 silo n.rest quiet_x it.0 letter a node1 there1 in
        let to_last = to_end d1 r1 silo n.rest quiet_x it.0 letter a node1 there1 last at1 in
        let giving = giver_there d1 r1 silo node1 there1 range giver was.0 in
        let giving_then = later_so d1 r1 a.before before giver giving.0 giving.1 in
        let shelf = still_at_most pages d1 r1 a.before before (step_at_most pages d r (Do silo x.part) d1 (quiet_moves d r (Do silo x.part) tt) shelves) giver giving_then.node giving_then.there in
        let answered = to_last.pages range giver waits_last in
        let asking = (to_answer d1 r1 silo n.rest quiet_x it.0 letter a node1 there1).pages range giver answered.0 in
        let late = (asks.less.pages range giver asking.0).1 in
        let comes = ask_back (after_all d1 a.before) rests giver it.0 a.between (quiet_between d1 r1 silo n.rest quiet_x it.0 letter a node1 there1) silo pages silo range (gathering_of node1 range).next letter giving_then.node asks.node answers.node refl giving_then.there shelf
        (stays_written d1 r1 a.before before it.0 letter it.1)
        (record {
          from = its_silo d1 r1 silo node1 there1;
          to = refl;
          version_is =
              its_version d1 r1 silo node1 there1 ∙ ap (λ (m : Membership). m.views.version) (sym (same_membership d1 r1 a.before before));
          body = refl;
        })
        asks.there late answers.there answered.0 in
        let more = comes.0 in
        let fewer = comes.1 in
        let grown = answered.1 in
        let started = (less1.pages range giver was.0).1 in
        (omega (arith, more, grown, started), omega (arith, fewer, started))
