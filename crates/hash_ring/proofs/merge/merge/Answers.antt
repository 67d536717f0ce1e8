use Rattle.std.proofs.Common.{◌+◌, ◌++◌, sym, subst, ap, ◌∙◌, arith}
use Rattle.hash_ring.proofs.Order.{point_cmp_total}
use Rattle.hash_ring.proofs.Merges.{Precedes, one_more_put, Precedes-one_more, rest_in_order, each_lower}
use Rattle.hash_ring.proofs.merge.merge.Goals as goal

pub push_up_to-rest-requires-clause-in_order : goal.push_up_to-rest-requires-clause-in_order
push_up_to-rest-requires-clause-in_order c =
    rest_in_order point_cmp_total c.args.points.now c.args.others.now c.loop-point.merged.items c.loop-point.rest.now
    c.loop-point.point-index c.requires.in_order c.loop-point.invariant.made

pub loop-point-preserved : goal.loop-point-preserved
loop-point-preserved c =
    let put = c.push_up_to-rest.ensures.put in
    record {
      made =
          ap (λ l. l ++ c.push_up_to-rest.result.now) put.1
          ∙ one_more_put point_cmp_total c.args.points.now c.args.others.now c.loop-point.merged.items c.loop-point.rest.now put.0
          c.push_up_to-rest.result.now c.loop-point.point-index c.point-item.result
          c.loop-point-test.true c.point-item.is c.loop-point.invariant.made c.loop-point.invariant.lower put.2.put;
      lower =
          subst (λ l. Precedes point_cmp_total l (c.loop-point.point-index + 1) c.args.others.now) (sym put.1)
          (Precedes-one_more point_cmp_total c.args.others.now c.loop-point.merged.items put.0 c.loop-point.point-index c.point-item.result
          c.requires.others c.loop-point-test.true c.point-item.is
          c.loop-point.invariant.lower (each_lower put.0 c.point-item.result put.2.lower));
      room = omega arith;
    }
