-- A nudge that isn't refused, of all that a silo waits for or of a part, and the steps after it.
use Rattle.std.proofs.Common.{◌≡◌, ◌≤◌, sym, ap, subst, ◌∙◌, ℕ, List, ◌∷◌, length}
use Rattle.std.specs.Prelude.{Bool, true, false, cond, not, Contains, Some, Result, Ok, Err}
use Rattle.std.specs.Option.{option_map}
use Rattle.std.proofs.lemmas.List.Elements.{All-head, All-contains, Contains-append_right}
use Rattle.silo_address.specs.Silo.{Silo}
use Rattle.directory_rules.specs.declared.act.Act.{Act}
use Rattle.directory_rules.specs.Host.{outstanding, requests_about, has_numbers, renewed, renewed_about}
use Rattle.directory_rules.specs.Input.{Does, step}
use Rattle.directory_rules.specs.Laws.{AreNumbered}
use Rattle.directory_rules.specs.State.{Letter, Node}
use Rattle.directory_rules.specs.Sent.{all_requests, all_wants}
use Rattle.directory_rules.specs.declared.own_step.OwnStep.{OwnStep}
use Rattle.directory_rules.specs.declared.own_step.OwnStep.TheVariants.{Nudge, NudgeGrain, NudgeRanges}
use Rattle.directory_rules.specs.Step.{Stepped, having_nudged, having_nudged_grain, nudge_ranges}
use Rattle.progress_rules.specs.Owed.{Owes}
use Rattle.progress_rules.proofs.FindsSorted.{outstanding_has}
use Rattle.progress_rules.proofs.NudgedAgain.{IsRenewed, renewed_from}
use Rattle.progress_rules.proofs.Parts.{grain_nudge_is, renewed_about_from}
use Rattle.progress_rules.proofs.Rounds.{nudge_is}
use Rattle.deployment_headline.specs.Deployment.{Deployment}
use Rattle.deployment_headline.specs.Steps.{Step, Do, IsStep, after, after_all, deployed}
use Rattle.deployment_headline.proofs.Worlds.{its_node}
use Rattle.deployment_progress.specs.Exchanges.{IsNudge, SendsWants, IsNudged, NudgesAreTaken}
use Rattle.deployment_progress.specs.Requests.{Renews}
use Rattle.deployment_progress.proofs.Rest.{node_at, IsAtRest}
use Rattle.deployment_progress.proofs.Quiet.{HasMoved, does_is, nudge_comes, rests_on}
use Rattle.deployment_progress.proofs.Later.{IsQuiet, quiet_rest, starts_at_rest}

module _ (d : Deployment) (r : IsAtRest d) (silo : Silo) (part : OwnStep) (steps : List Step) (q : IsQuiet steps)
    (n : IsNudged d silo part steps) where
  abbrev nudged_to : Deployment
  nudged_to = after d (Do silo part)

  abbrev first : Node
  first = n.process.node

  quiet_all : IsQuiet (Do silo part ∷ n.rest)
  quiet_all = subst IsQuiet n.begins q

  pub quiet_after : IsQuiet n.rest
  quiet_after = quiet_rest (Do silo part) n.rest quiet_all

  pub nudged_rests : IsAtRest nudged_to
  nudged_rests = rests_on d r (Do silo part) (All-head IsStep (Do silo part) n.rest quiet_all.named) tt

  pub nudge_taken : (m : HasMoved d (Do silo part) nudged_to silo) × (m.stepped ≡ n.nudged) × (m.node ≡ first) ×
      (step first (Does part) ≡ Ok n.nudged)
  nudge_taken = nudge_comes d r silo part n.process n.nudged n.there n.is_nudged

  pub first_there : node_at d silo ≡ Some first
  first_there = ap (option_map its_node) n.there

  pub nudged_there : node_at nudged_to silo ≡ Some n.nudged.node
  nudged_there = nudge_taken.0.put ∙ ap (λ (t : Stepped). Some t.node) nudge_taken.1

  pub after_nudge : after_all d steps ≡ after_all nudged_to n.rest
  unfolding after_all
  after_nudge = ap (after_all d) n.begins

-- ---- what it sends, and what it renews
-- what the pieces want goes out
pub sends_wants : (part : OwnStep) → SendsWants part → (old : Node) (nudged : Stepped) → step old (Does part) ≡ Ok nudged
    → (letter : Letter) → Contains (all_wants nudged.node) letter → Contains nudged.letters letter
sends_wants Nudge wants old nudged is letter has =
    let its : Node = record old { host = renewed old.host } in
    let did : nudged ≡ having_nudged its = nudge_is old nudged is in
    let in_wants : Contains (all_wants its) letter = subst (λ (t : Stepped). Contains (all_wants t.node) letter) did has in
    subst (λ (t : Stepped). Contains t.letters letter) (sym did) (Contains-append_right (all_requests its) (all_wants its) letter in_wants)
sends_wants NudgeRanges wants old nudged is letter has =
    let did : nudge_ranges old ≡ nudged = cc is in
    subst (λ (t : Stepped). Contains t.letters letter) did (subst (λ (t : Stepped). Contains (all_wants t.node) letter) (sym did) has)
sends_wants other wants old nudged is letter has = absurd wants

-- each request that is renewed has a number that was free before
pub renewed_free : (part : OwnStep) (e : ℕ × Act) → Renews part e → (old : Node) (nudged : Stepped) → step old (Does part) ≡ Ok nudged
    → AreNumbered nudged.node.host → Owes nudged.node.host e → old.host.next_number ≤ e.0
renewed_free Nudge e renews old nudged is numbered owes =
    let did : nudged ≡ having_nudged (record old { host = renewed old.host }) = nudge_is old nudged is in
    let then : AreNumbered (renewed old.host) = subst (λ (t : Stepped). AreNumbered t.node.host) did numbered in
    (All-contains (IsRenewed old.host) (outstanding (renewed old.host)) e (renewed_from old.host)
    (outstanding_has (renewed old.host) then e (subst (λ (t : Stepped). Owes t.node.host e) did owes))).0
renewed_free (NudgeGrain grain) e renews old nudged is numbered owes =
    let did : having_nudged_grain (record old { host = renewed_about grain old.host }) grain ≡ nudged = grain_nudge_is old grain nudged is in
    renewed_about_from old.host grain e (subst (λ (t : Stepped). Owes t.node.host e) (sym did) owes) renews
renewed_free other e renews old nudged is numbered owes = absurd renews

-- ---- when it is refused
refused_so : (b : Bool) (stepped : Stepped) (number : ℕ) → cond {A = Result Stepped ℕ} (not b) (Err 805) (Ok stepped) ≡ Err number
    → number ≡ 805
refused_so true stepped number is = absurd (cc (is))
refused_so false stepped number is = cc (is)

refused_by : (part : OwnStep) → IsNudge part → (node : Node) (number : ℕ) → step node (Does part) ≡ Err number → number ≡ 805
refused_by Nudge nudge node number is =
    refused_so (has_numbers node.settings node.host (length (outstanding node.host)))
    (having_nudged (record node { host = renewed node.host })) number is
refused_by (NudgeGrain grain) nudge node number is =
    refused_so (has_numbers node.settings node.host (length (requests_about grain node.host)))
    (having_nudged_grain (record node { host = renewed_about grain node.host }) grain) number is
refused_by NudgeRanges nudge node number is = absurd (cc is)
refused_by other nudge node number is = absurd nudge

pub nudges_are_taken : NudgesAreTaken
nudges_are_taken settings steps later are named seen named_later none silo part s number nudge there is =
    let d = deployed settings steps in
    refused_by part nudge s.node number (sym (does_is d (starts_at_rest settings steps are named seen) silo s there (Does part)) ∙ is)
