-- The steps rise inside the range, so each part lies in it, and the parts are those of `cut_parts`.
use Rattle.std.proofs.Common.{◌≡◌, ℕ, ◌<◌, List, ◌∙◌, ap, refl, subst, sym, arith, rules}
use Rattle.ring_range.specs.Range.{Range, IsRange}
use Rattle.ring_range.specs.Cut.{cut_steps, cut_parts, IsCut}
use Rattle.ring_range.proofs.Steps.{Rises, Rises-below, Rises-cut_steps}
use Rattle.ring_range.proofs.Cuts.{is_cut, places_below}
use Rattle.ring_range.proofs.range.RingRange.cut_at.Goals as goal

pub loop-step-init : goal.loop-step-init
loop-step-init c =
    let steps : c.into_iter-step-iterator.result ≡ cut_steps c.args.self.now c.args.places.now = c.into_iter-step-iterator.ensures.into_iter_gives.0 ∙ c.in_ok-step-items.ensures in
    let size : c.self.inside.size ≡ c.args.self.now.size = ap (λ (range : Range). range.size) c.self.view_is in
    let some : 0 < c.args.self.now.size = omega arith in
    record {
      whole = rw (c.new-parts.ensures.items, steps) refl;
      rising =
          subst (λ (steps : List ℕ). Rises 0 steps c.args.self.now.size) (sym steps)
          (Rises-cut_steps c.args.self.now c.args.places.now some);
    }

pub part-requires : goal.part-requires
part-requires c =
    let rising = subst (λ (steps : List ℕ). Rises c.loop-step.from steps c.args.self.now.size) c.in-Some.ensures.steps c.loop-step.invariant.rising in
    let below : c.in-Some.step.now < c.args.self.now.size = Rises-below c.in-Some.step.now c.next.new.self c.args.self.now.size rising.1 in
    omega arith

pub returns-clause-exact : goal.returns-clause-exact
unfolding cut_parts
returns-clause-exact c = search rules

pub returns-clause-cut : goal.returns-clause-cut
unfolding cut_parts
returns-clause-cut c =
    let exact : c.push-2.new.self.items ≡ cut_parts c.args.self.now c.args.places.now = search rules in
    subst (λ (parts : List Range). IsCut c.args.self.now c.args.places.now parts) (sym exact)
    (is_cut _ _ (subst IsRange c.self.view_is c.self.invariant) (places_below c.args.places.now c.type_inv.places))
