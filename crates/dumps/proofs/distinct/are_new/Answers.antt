use Rattle.std.proofs.Common.{sym}
use Rattle.dumps.proofs.SetsMade.{distinct_more, distinct_no_more, set_more, was_there, was_new}
use Rattle.dumps.proofs.distinct.are_new.Goals as goal

pub returns-then-not-branch : goal.returns-then-not-branch
returns-then-not-branch g c = sym
    (distinct_no_more g.T.Ord.cmp g.met.T.Ord.total c.loop-item.found c.args.items.now c.loop-item.item-index c.item-item.result
    c.loop-item-test.true c.item-item.is c.loop-item.invariant.has (was_there _ _ c.in_ok-insert.ensures.added c.if-not-branch.true))

pub loop-item-preserved : goal.loop-item-preserved
loop-item-preserved g c = record {
  apart = distinct_more g.T.Ord.cmp g.met.T.Ord.total c.loop-item.found c.args.items.now c.loop-item.item-index c.item-item.result
      c.loop-item-test.true c.item-item.is c.loop-item.invariant.has c.loop-item.invariant.apart
      (was_new _ _ c.in_ok-insert.ensures.added c.if-not-branch.false);
  has =
      set_more g.T.Ord.cmp g.met.T.Ord.total c.loop-item.found c.insert.new.self c.args.items.now c.loop-item.item-index c.item-item.result
      c.loop-item-test.true c.item-item.is c.loop-item.invariant.has c.in_ok-insert.ensures.updates.0;
}
