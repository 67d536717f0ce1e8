use Rattle.node_plans.proofs.AfterSight.{nudge_grain_is}
use Rattle.directory_node.proofs.node.Node.plan_about.Goals as goal

pub returns-clause-planned : goal.returns-clause-planned
returns-clause-planned c = nudge_grain_is c.args.self.now c.args.grain.now c.in_ok-letters.letters.items c.in_ok-letters.ensures
