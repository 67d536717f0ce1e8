use Rattle.dumps.proofs.SetsMade.{set_more}
use Rattle.dumps.proofs.distinct.set_of.Goals as goal

pub loop-item-preserved : goal.loop-item-preserved
loop-item-preserved g c =
    set_more g.T.Ord.cmp g.met.T.Ord.total c.loop-item.set c.insert.new.self c.args.items.now c.loop-item.item-index c.item-item.result
    c.loop-item-test.true c.item-item.is c.loop-item.invariant c.in_ok-insert.ensures.updates.0
