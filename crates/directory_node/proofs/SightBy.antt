-- What is planned of a sight is the rule's, with the transition's ring and arcs.
use Rattle.std.proofs.Common.{◌≡◌, refl, ap, ◌∙◌, List, ◌++◌}
use Rattle.std.specs.Prelude.{cond}
use Rattle.membership_view.specs.View.{ViewValue}
use Rattle.hash_ring.specs.Places.{PlacesValue}
use Rattle.hash_ring.specs.Ring.{RingValue, ring_of}
use Rattle.range_moves.specs.Arcs.{arcs_of}
use Rattle.directory_rules.specs.State.{Letter, Node}
use Rattle.directory_rules.specs.Sent.{all_requests, all_wants}
use Rattle.directory_rules.specs.Sight.{is_next}
use Rattle.directory_rules.specs.Step.{Stepped, compared_points, having_seen, node_after, sight}
use Rattle.directory_rules.specs.declared.Effect.{Effect}
use Rattle.directory_rules.specs.declared.Effect.TheVariants.{Next, Skip}
use Rattle.node_plans.specs.Plans.{FitsSight, seen_by}
use Rattle.node_plans.specs.Transition.{IsOfSight, TransitionValue}
use Rattle.node_plans.specs.declared.plan.Sight.{Sight}
use Rattle.node_plans.proofs.AfterSight.{seen_is}
use Rattle.directory_node.specs.SightBy.{sight_by}

abbrev stepped : Node → List Letter → Effect → Stepped
stepped node letters effect = record { node = node; letters = letters; effect = effect }

-- the sight, as if its ring were that of the view by the places
abbrev placed : ViewValue → PlacesValue → Sight → Sight
placed view places sight = record sight { transition = record sight.transition { ring = ring_of view places } }

placed_fits : (view : ViewValue) (places : PlacesValue) (sight : Sight) (node : Node) → FitsSight sight node
    → FitsSight (placed view places sight) node
placed_fits view places sight node fits = record {
  newer = fits.newer;
  arcs = fits.arcs;
  sealed = fits.sealed;
  gatherings = fits.gatherings;
  recoveries = fits.recoveries;
  renewal = fits.renewal;
}

-- a sight that fits makes just that
pub seen_by_is : (node : Node) (its : Sight) → FitsSight its node
    → (before view : ViewValue) (places : PlacesValue) (transition : TransitionValue) (letters : List Letter) (effect : Effect)
    → its.next ≡ is_next node.view before view node.host.silo → its.view ≡ view → its.transition ≡ transition
    → letters ≡ all_wants (seen_by its node) ++ all_requests (seen_by its node)
    → effect ≡ cond (is_next node.view before view node.host.silo) Next Skip
    → stepped (seen_by its node) letters effect ≡ sight_by node before view places transition
seen_by_is node its fits before view places transition letters effect n v t sent told =
    let next = is_next node.view before view node.host.silo in
    (λ i. stepped (seen_by its node) (sent i) (told i))
    ∙ ap (λ (x : Node). having_seen next (record x { ring = its.transition.ring }))
    (seen_is node (placed view places its) (placed_fits view places its node fits) view places its.transition.arcs v refl refl)
    ∙ (λ i. having_seen next (record (node_after (n i) node view places (t i).arcs) { ring = (t i).ring }))

-- by the transition of the sight it is the rule's
pub of_sight : (node : Node) (before view : ViewValue) (places : PlacesValue) (transition : TransitionValue)
    → IsOfSight node before view places transition
    → sight_by node before view places transition ≡ sight (is_next node.view before view node.host.silo) node before view places
of_sight node before view places transition of =
    let next = is_next node.view before view node.host.silo in
    let arcs : transition.arcs ≡ arcs_of (compared_points next node before places) (ring_of view places).points =
    of.arcs ∙ ap (λ (r : RingValue). arcs_of (compared_points next node before places) r.points) of.ring in
    λ i. having_seen next (record (node_after next node view places (arcs i)) { ring = of.ring i })
