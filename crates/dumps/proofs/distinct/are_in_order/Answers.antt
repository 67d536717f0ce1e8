use Rattle.dumps.proofs.InOrder.{sorted_answer}
use Rattle.dumps.proofs.distinct.are_in_order.Goals as goal

pub returns : goal.returns
returns g c =
    sorted_answer g.T.PartialOrd.partial_cmp g.T.Ord.cmp g.met.T.Ord.matches_partial_cmp g.met.T.Ord.total c.args.items.now _
    c.is_sorted.ensures.cases
