use Rattle.std.proofs.Common.{rules}
use Rattle.directory_node.proofs.node.Node.plan_query.Goals as goal

pub returns-clause-planned : goal.returns-clause-planned
returns-clause-planned c = search rules
