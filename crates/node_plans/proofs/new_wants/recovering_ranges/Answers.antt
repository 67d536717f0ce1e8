use Rattle.std.proofs.Common.{sym, ap, ◌∙◌, ◌++◌, append_assoc, append-nil}
use Rattle.directory_rules.specs.Sent.{recovering_by, recovering_ranges}
use Rattle.node_plans.proofs.new_wants.recovering_ranges.Goals as goal

pub loop-piece-init : goal.loop-piece-init
loop-piece-init c =
    (λ i. c.new-ranges.ensures.items i ++ recovering_ranges (c.into_iter-piece-iterator.ensures.into_iter_gives.0 i))

pub loop-piece-preserved : goal.loop-piece-preserved
loop-piece-preserved c =
    let had = c.loop-piece.ranges.items in
    let piece = c.in-Some.piece.now in
    ap (λ l. l ++ recovering_ranges c.next.new.self) c.in_ok-push_recovering.ensures
    ∙ append_assoc had (recovering_by piece.state piece.range) (recovering_ranges c.next.new.self)
    ∙ ap (λ l. had ++ recovering_ranges l) (sym c.in-Some.ensures.steps) ∙ c.loop-piece.invariant

pub returns : goal.returns
returns c =
    let had = c.loop-piece.ranges.items in
    sym (append-nil had) ∙ ap (λ l. had ++ recovering_ranges l) (sym c.in-None.ensures.steps.0) ∙ c.loop-piece.invariant
