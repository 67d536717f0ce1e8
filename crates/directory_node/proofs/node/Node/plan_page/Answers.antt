use Rattle.std.specs.BTreeMap.{is_at}
use Rattle.std.specs.Ordering.{nat_cmp}
use Rattle.std.proofs.Common.{sym}
use Rattle.node_plans.proofs.Gatherings.{found_rises}
use Rattle.directory_node.proofs.node.Node.plan_page.Goals as goal

pub plan_next_page-requires-clause-rises : goal.plan_next_page-requires-clause-rises
plan_next_page-requires-clause-rises c =
    found_rises c.self.inside.gatherings.entries (is_at (nat_cmp c.start.result)) c.in-Some.gathering.now c.self.invariant.rising
    (sym c.in-Some.ensures.value)
