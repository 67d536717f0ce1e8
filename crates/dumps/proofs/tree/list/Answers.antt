use Rattle.std.proofs.Common.{arith}
use Rattle.dumps.proofs.ReadLists.{item_read, list_read, list_unread}
use Rattle.dumps.proofs.Refused.{passed_on}
use Rattle.dumps.proofs.tree.list.Goals as goal

pub loop-value-preserved : goal.loop-value-preserved
loop-value-preserved g c =
    rw c.in_ok-push.ensures.items
    (item_read g.T.ReadJson.reads _ _ _ _ _ _ c.loop-value-test.true c.value-item.is c.in_ok-item.ensures c.loop-value.invariant)

pub returns-in_err-item : goal.returns-in_err-item
returns-in_err-item g c =
    passed_on _ _ _ _ _ c.from_residual-in_err-item.ensures.1 c.in_err-item.ensures
    (list_unread g.T.ReadJson.reads _ _ _ _ _ c.in_ok-values.ensures.read c.loop-value-test.true c.value-item.is c.loop-value.invariant)

pub returns : goal.returns
returns g c =
    list_read g.T.ReadJson.reads _ _ _ _ c.in_ok-values.ensures.read (omega (arith, c.loop-value-test.false)) c.loop-value.invariant
