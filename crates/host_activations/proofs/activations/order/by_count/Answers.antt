use Rattle.std.proofs.Common.{arith, sym}
use Rattle.std.proofs.lemmas.List.{drop_all}
use Rattle.host_activations.proofs.ByCount.{counted_all, counted_more, counted_none}
use Rattle.host_activations.proofs.activations.order.by_count.Goals as goal

pub loop-index-init : goal.loop-index-init
loop-index-init c = counted_none c.args.map.now c.requires c.new-counted.result.entries c.new-counted.ensures.empty

pub loop-index-preserved : goal.loop-index-preserved
loop-index-preserved c =
    counted_more c.args.map.now c.loop-index.index _ (sym c.in-Some.ensures) c.loop-index.counted.entries c.insert.new.self.entries
    c.in_ok-insert.ensures.entries c.loop-index.invariant

pub returns : goal.returns
returns c =
    counted_all c.args.map.now c.loop-index.index c.loop-index.counted.entries
    (drop_all c.loop-index.index c.args.map.now (omega (arith, c.loop-index-test.false, c.len-index-end.ensures)))
    c.loop-index.invariant
