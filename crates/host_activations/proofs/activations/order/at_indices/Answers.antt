use Rattle.std.proofs.Common.{sym, subst}
use Rattle.host_activations.proofs.ByCount.{AreTold, told_more}
use Rattle.host_activations.proofs.activations.order.at_indices.Goals as goal

pub loop-index-preserved : goal.loop-index-preserved
loop-index-preserved c =
    subst (λ items. AreTold c.args.map.now items c.next.new.self) (sym c.in_ok-push.ensures.items)
    (told_more c.args.map.now c.loop-index.list.items c.in-Some.index.now c.next.new.self _ (sym c.in-Some-held_at.ensures)
    (subst (AreTold c.args.map.now c.loop-index.list.items) c.in-Some.ensures.steps c.loop-index.invariant))
