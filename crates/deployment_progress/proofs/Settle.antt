-- After so many exchanges all ranges of the silo are settled.
use Rattle.std.proofs.Common.{arith, ◌≡◌, ℕ, suc, ◌+◌, ◌-◌, ◌<◌, ◌≤◌, List, [], ◌∷◌, ◌++◌, length, refl, sym, ap, ◌∙◌, subst, inl, inr}
use Rattle.std.specs.Prelude.{All, flat_map, Option, Some, None}
use Rattle.std.specs.Option.{option_map}
use Rattle.silo_address.specs.Silo.{Silo}
use Rattle.silo_address.specs.Grain.{Grain}
use Rattle.ring_range.specs.Range.{Range}
use Rattle.hash_ring.specs.Hash.{hash_grain}
use Rattle.directory_rules.specs.State.{Node}
use Rattle.directory_rules.specs.Recovery.{told_by}
use Rattle.directory_rules.specs.Sent.{gathering_of, recovery_of}
use Rattle.directory_rules.specs.Snapshot.{page_count}
use Rattle.silo_rules.specs.SiloValue.{SiloValue}
use Rattle.progress_rules.specs.Plan.{IsSettledPiece}
use Rattle.progress_rules.specs.Room.{report_count, held_behind, all_held}
use Rattle.progress_rules.specs.Waits.{Recovers, Awaits, IsFurther}
use Rattle.progress_rules.specs.Gathers.{AwaitsFrom}
use Rattle.progress_rules.proofs.AreTold.{Base, left_by}
use Rattle.progress_rules.proofs.Passed.{behind_few, one_report, no_more_reports}
use Rattle.progress_rules.proofs.RoundOfPieces.{settled_unless_waiting}
use Rattle.progress_rules.proofs.Told.{not_further_itself}
use Rattle.deployment_headline.specs.Deployment.{Deployment, process_of}
use Rattle.deployment_headline.specs.Steps.{Step, after_all, deployed}
use Rattle.deployment_headline.proofs.Worlds.{its_node}
use Rattle.deployment_progress.specs.Exchanges.{AreExchanges, GetsOn, HaveAtMost, HoldAtMost, HasExchanges, ExchangesGetOn, RangesSettle, AllRangesSettle}
use Rattle.deployment_progress.specs.Waits.{WaitsForLess}
use Rattle.deployment_progress.proofs.States.{not_settled_and_recovers}
use Rattle.deployment_progress.proofs.Rest.{node_at, process_with, IsAtRest, its_settings}
use Rattle.deployment_progress.proofs.Later.{w, its_pieces, IsLater, IsQuiet, quiet_first, quiet_last, after_append, rests_after, later_so, starts_at_rest}
use Rattle.deployment_progress.proofs.Shelves.{AreAtMost, still_at_most, most_pages}
use Rattle.deployment_progress.proofs.Awaited.{awaits_some}
use Rattle.deployment_progress.proofs.Back.{was_there_first}
use Rattle.deployment_progress.proofs.Exchange.{told_further, recovers_on, pages_come}
use Rattle.deployment_progress.proofs.Reported.{base_at, AreReported, first_reported, still_reported, goes_down}

same_process : (d : Deployment) (silo : Silo) (s t : SiloValue) → process_of d silo ≡ Some s → process_of d silo ≡ Some t → s ≡ t
same_process d silo s t one other = cc (one, other)

pub exchanges_get_on : ExchangesGetOn
exchanges_get_on settings steps later are named seen named_later none silo s t x there at =
    let d = deployed settings steps in
    let r = starts_at_rest settings steps are named seen in
    let q : IsQuiet later = record { named = named_later; none = none } in
    let last = ap (option_map its_node) at in
    subst (λ (p : SiloValue). GetsOn p.node t.node) (same_process d silo x.nudge.process s x.nudge.there there) (record {
      recovers = recovers_on d r silo later q x t.node last;
      told = told_further d r silo later q x t.node last;
      awaits = λ range giver was waits. (pages_come d r silo later q x t.node last (most_pages d).0 (most_pages d).1 range giver waits).0;
    })

-- ---- exchanges, one after the other
abbrev together : List (List Step) → List Step
together exchanges = flat_map (λ its. its) exchanges

module _ (silo : Silo) (base : Base) (pages reports : ℕ) (few : (other : Silo) (other_range : Range) (told : Option Grain) → left_by base other other_range told ≤ reports)
    (above : 1 ≤ base.settings.report_size) (range : Range) where
  -- the nodes at the start and at the end
  pub record Between (d : Deployment) (exchanges : List (List Step)) : Type 0 where
    pub rests : IsAtRest d
    pub quiet : IsQuiet (together exchanges)
    pub are : AreExchanges d silo exchanges
    pub shelves : AreAtMost pages d
    pub same : d.settings ≡ base.settings
    pub told : AreReported base d
    pub first : Node
    pub there : node_at d silo ≡ Some first
    pub last : Node
    pub at : node_at (after_all d (together exchanges)) silo ≡ Some last

  abbrev next_at : Node → ℕ
  next_at node = (gathering_of node range).next

  abbrev left_at : Node → Silo → ℕ
  left_at node other = left_by base other range (told_by other (recovery_of node range))

  module _ (d : Deployment) (steps : List Step) (more : List (List Step)) (b : Between d (steps ∷ more)) where
    quiet_steps : IsQuiet steps
    quiet_steps = quiet_first steps (together more) b.quiet

    mid : IsLater d b.rests (after_all d steps) silo b.first
    mid = later_so d b.rests steps quiet_steps silo b.first b.there

    -- after the first of them
    abbrev rest : Between (after_all d steps) more
    rest = record {
      rests = rests_after d b.rests steps quiet_steps;
      quiet = quiet_last steps (together more) b.quiet;
      are = b.are.1;
      shelves = still_at_most pages d b.rests steps quiet_steps b.shelves;
      same = (still_reported base d b.rests b.same b.told steps quiet_steps).1;
      told = (still_reported base d b.rests b.same b.told steps quiet_steps).0;
      first = mid.node;
      there = mid.there;
      last = b.last;
      at = ap (λ x. node_at x silo) (sym (after_append d steps (together more))) ∙ b.at;
    }

    same_first : b.are.0.nudge.process.node ≡ b.first
    same_first =
        let there = b.there in let its : node_at d silo ≡ Some b.are.0.nudge.process.node = ap (option_map its_node) b.are.0.nudge.there in
        cc (there, its)

    -- the first exchange
    comes : (giver : Silo) → AwaitsFrom mid.node range giver → (next_at b.first < next_at mid.node) × (next_at b.first < pages)
    comes giver waits =
        subst (λ (n : Node). (next_at n < next_at mid.node) × (next_at n < pages)) same_first
        (pages_come d b.rests silo steps quiet_steps b.are.0 mid.node mid.there pages b.shelves range giver waits)

    -- who is awaited still has a report less
    falls : (other : Silo) → Recovers b.first range → Awaits mid.node range other → left_at mid.node other + 1 ≤ left_at b.first other
    falls other was waits =
        elim (goes_down base d b.rests b.same b.told steps quiet_steps silo b.first mid.node b.there mid.there range other was waits) [
          | inr down ↦ down
          | inl as_much ↦
              let further = told_further d b.rests silo steps quiet_steps b.are.0 mid.node mid.there range other
              (subst (λ (n : Node). Recovers n range) (sym same_first) was) waits in
              let hash = hash_grain b.are.0.nudge.process.node.settings.hashing in
              let as_before = as_much ∙ ap (λ (n : Node). told_by other (recovery_of n range)) (sym same_first) in
              absurd (not_further_itself hash range (told_by other (recovery_of b.are.0.nudge.process.node range))
              (subst (λ o. IsFurther hash range (told_by other (recovery_of b.are.0.nudge.process.node range)) o) as_before further))
        ]

  to_last : (d : Deployment) (exchanges : List (List Step)) (b : Between d exchanges) → WaitsForLess b.first b.last
  to_last d exchanges b =
      let e = later_so d b.rests (together exchanges) b.quiet silo b.first b.there in
      let put = e.there in
      let at = b.at in
      let same : e.node ≡ b.last = cc (put, at) in
      subst (WaitsForLess b.first) same e.less

  -- what still awaits at the end had a page in each exchange
  pub awaits_long : (d : Deployment) (steps : List Step) (more : List (List Step)) (b : Between d (steps ∷ more)) (giver : Silo)
      → AwaitsFrom b.last range giver → next_at b.first + suc (length more) ≤ pages
  awaits_long d steps [] b giver waits =
      let one = comes d steps [] b giver ((to_last (after_all d steps) [] (rest d steps [] b)).pages range giver waits).0 in
      let few = one.1 in
      omega (arith, few)
  awaits_long d steps (other ∷ more) b giver waits =
      let its = rest d steps (other ∷ more) b in
      let one = comes d steps (other ∷ more) b giver ((to_last (after_all d steps) (other ∷ more) its).pages range giver waits).0 in
      let later = awaits_long (after_all d steps) other more its giver waits in
      let grown = one.0 in
      omega (arith, grown, later)

  at_once : (d : Deployment) (b : Between d []) → b.first ≡ b.last
  unfolding after_all
  at_once d b = let there = b.there in let at : node_at d silo ≡ Some b.last = b.at in cc (there, at)

  still_recovers : (one two three : Node) → WaitsForLess one two → WaitsForLess two three → Recovers one range → Recovers three range
      → Recovers two range
  still_recovers one two three a b was is =
      elim (a.recovers range was) [
        | inl still ↦ still
        | inr settled ↦ absurd (not_settled_and_recovers three range (b.settled range settled) is)
      ]

  -- who is awaited through all of them has a report less by each
  tells_long : (d : Deployment) (exchanges : List (List Step)) (b : Between d exchanges) (other : Silo) → Recovers b.first range
      → Awaits b.last range other → left_at b.last other + length exchanges ≤ left_at b.first other
  tells_long d [] b other was waits = let same = ap (λ n. left_at n other) (at_once d b) in omega (arith, same)
  tells_long d (steps ∷ more) b other was waits =
      let its = rest d steps more b in
      let less = (mid d steps more b).less in
      let later = to_last (after_all d steps) more its in
      let still = still_recovers b.first (mid d steps more b).node b.last less later was waits.recovers in
      let one = falls d steps more b other was (later.reports range other still waits) in
      let rest_of = tells_long (after_all d steps) more its other still waits in
      omega (arith, one, rest_of)

  pub recovers_long : (d : Deployment) (exchanges : List (List Step)) (b : Between d exchanges) → Recovers b.first range
      → Recovers b.last range → length exchanges + 1 ≤ reports
  recovers_long d exchanges b was recovers =
      let end = rests_after d b.rests (together exchanges) b.quiet in
      let some = awaits_some (after_all d (together exchanges)) end silo b.last b.at range recovers in
      let long = tells_long d exchanges b some.0 was some.1 in
      let one = one_report base.settings.report_size
      (held_behind base.settings.hashing (base.held some.0) range (told_by some.0 (recovery_of b.last range))) above in
      let most = few some.0 range (told_by some.0 (recovery_of b.first range)) in
      omega (arith, long, one, most)

  -- what awaited a snapshot had a page in each until it recovered
  pub turns_long : (d : Deployment) (exchanges : List (List Step)) (b : Between d exchanges) (giver : Silo) → AwaitsFrom b.first range giver
      → Recovers b.last range → length exchanges ≤ (pages - next_at b.first) + reports
  turns_long d [] b giver was recovers = omega arith
  turns_long d (steps ∷ more) b giver was recovers =
      let its = rest d steps more b in
      let middle = mid d steps more b in
      elim ((to_last (after_all d steps) more its).recovered range recovers) [
        | inl recovering ↦ (let long = recovers_long (after_all d steps) more its recovering recovers in omega (arith, long))
        | inr awaited ↦
            let one = comes d steps more b awaited.0 awaited.1 in
            let grown = one.0 in
            let fewer = one.1 in
            let long = turns_long (after_all d steps) more its awaited.0 awaited.1 recovers in
            omega (arith, grown, fewer, long)
      ]

-- ---- then all are settled
all_end : (d : Deployment) (r : IsAtRest d) (silo : Silo) (base : Base) (exchanges : List (List Step)) (pages reports : ℕ) (last : Node)
    → ((other : Silo) (range : Range) (told : Option Grain) → left_by base other range told ≤ reports) → 1 ≤ base.settings.report_size
    → d.settings ≡ base.settings → AreReported base d
    → IsQuiet (together exchanges) → AreExchanges d silo exchanges → AreAtMost pages d → pages + reports + 1 ≤ length exchanges
    → node_at (after_all d (together exchanges)) silo ≡ Some last → All IsSettledPiece last.holding.pieces
all_end d r silo base [] pages reports last few above same told q are shelves many at = absurd (omega (arith, many))
all_end d r silo base (steps ∷ more) pages reports last few above same told q are shelves many at =
    let end = rests_after d r (together (steps ∷ more)) q in
    settled_unless_waiting (w (after_all d (together (steps ∷ more))) end).world.settings.hashing last
    (its_pieces (after_all d (together (steps ∷ more))) end silo last at)
    (λ range recovers. elim ((to_last silo base pages reports few above range d (steps ∷ more) (b range)).recovered range recovers) [
      | inl was ↦ (let long = recovers_long silo base pages reports few above range d (steps ∷ more) (b range) was recovers in omega (arith, long, many))
      | inr awaited ↦
          let long = turns_long silo base pages reports few above range d (steps ∷ more) (b range) awaited.0 awaited.1 recovers in
          omega (arith, long, many)
    ])
    (λ range giver waits. (let long = awaits_long silo base pages reports few above range d steps more (b range) giver waits in
    omega (arith, long, many)))
  where
    b : (range : Range) → Between silo base pages reports few above range d (steps ∷ more)
    b range = record {
      rests = r;
      quiet = q;
      are = are;
      shelves = shelves;
      same = same;
      told = told;
      first = are.0.nudge.process.node;
      there = ap (option_map its_node) are.0.nudge.there;
      last = last;
      at = at;
    }

-- no more reports are left of what is held than all of it takes
few_left : (d : Deployment) (reports : ℕ) → 1 ≤ d.settings.report_size → HoldAtMost reports d → (silo : Silo) (own : Node)
    → node_at d silo ≡ Some own → (other : Silo) (range : Range) (told : Option Grain) → left_by (base_at d) other range told ≤ reports
few_left d reports above hold silo own there other range told = by (node_at d other) refl
  where
    size : ℕ
    size = d.settings.report_size

    at_most : (whose : Silo) (node : Node) → node_at d whose ≡ Some node → report_count size (length node.host.held) ≤ reports
    at_most whose node at =
        let its = process_with (process_of d whose) node at in
        subst (λ (n : Node). report_count size (length n.host.held) ≤ reports) its.2 (hold whose its.0 its.1)

    by : (o : Option Node) → node_at d other ≡ o → report_count size (held_behind d.settings.hashing (all_held o) range told) ≤ reports
    by None none =
        let most = at_most silo own there in
        let less = no_more_reports size 0 (length own.host.held) above (omega arith) in
        omega (arith, most, less)
    by (Some node) its =
        let most = at_most other node its in
        let less = no_more_reports size (held_behind d.settings.hashing node.host.held range told) (length node.host.held) above
        (behind_few d.settings.hashing node.host.held range told) in
        omega (arith, most, less)

-- the snapshots, by the nodes
shelves_of : (d : Deployment) (pages : ℕ) → HaveAtMost pages d → AreAtMost pages d
shelves_of d pages at_most silo node there =
    let its = process_with (process_of d silo) node there in
    subst (λ (n : Node). All (λ x. page_count (length x.entries) ≤ pages) n.shelf) its.2 (at_most silo its.0 its.1)

settled_so : (d : Deployment) (r : IsAtRest d) (steps : List Step) → IsQuiet steps → (silo : Silo) (pages reports : ℕ) (last : Node)
    → HaveAtMost pages d → HoldAtMost reports d → HasExchanges d silo (pages + reports + 1) steps → node_at (after_all d steps) silo ≡ Some last
    → All IsSettledPiece last.holding.pieces
settled_so d r steps q silo pages reports last at_most hold h at =
    let quiet : IsQuiet (h.before ++ together h.exchanges) = subst IsQuiet h.is q in
    let first = quiet_first h.before (together h.exchanges) quiet in
    let own = was_there_first d r steps q silo last at in
    let above = (its_settings d r).report_above in
    let told = still_reported (base_at d) d r refl (first_reported d r) h.before first in
    all_end (after_all d h.before) (rests_after d r h.before first) silo (base_at d) h.exchanges pages reports last
    (few_left d reports above hold silo own.0 own.1) above told.1 told.0
    (quiet_last h.before (together h.exchanges) quiet) h.are (still_at_most pages d r h.before first (shelves_of d pages at_most))
    h.enough
    (ap (λ x. node_at x silo) (sym (ap (after_all d) h.is ∙ after_append d h.before (together h.exchanges))) ∙ at)

pub ranges_settle : RangesSettle
ranges_settle settings steps later are named seen named_later none silo pages reports t at_most hold h at =
    settled_so (deployed settings steps) (starts_at_rest settings steps are named seen) later (record { named = named_later; none = none })
    silo pages reports t.node at_most hold h (ap (option_map its_node) at)

pub all_ranges_settle : AllRangesSettle
all_ranges_settle settings steps later are named seen named_later none pages reports at_most hold each silo t at =
    let d = deployed settings steps in
    let r = starts_at_rest settings steps are named seen in
    let q : IsQuiet later = record { named = named_later; none = none } in
    let last = ap (option_map its_node) at in
    let was = was_there_first d r later q silo t.node last in
    let its = process_with (process_of d silo) was.0 was.1 in
    settled_so d r later q silo pages reports t.node at_most hold (each silo its.0 its.1) last
