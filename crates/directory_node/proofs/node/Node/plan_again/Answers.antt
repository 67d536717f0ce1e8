use Rattle.node_plans.proofs.AfterSight.{nudge_is}
use Rattle.directory_node.proofs.node.Node.plan_again.Goals as goal

pub returns-clause-planned : goal.returns-clause-planned
returns-clause-planned c = nudge_is c.args.self.now c.in_ok-letters.letters.items c.in_ok-letters.ensures
