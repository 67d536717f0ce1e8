use Rattle.std.proofs.Common.{sym}
use Rattle.dumps.proofs.Joined.{items_more}
use Rattle.dumps.proofs.dump_text.push_list.Goals as goal

pub loop-index-preserved : goal.loop-index-preserved
loop-index-preserved g c =
    items_more g.T.WriteJson.json _ _ _ _ _ _ c.loop-index-test.true (sym c.index-items-index.is) c.loop-index.invariant
    c.in_ok-push_item.ensures.first c.in_ok-push_item.ensures.later
