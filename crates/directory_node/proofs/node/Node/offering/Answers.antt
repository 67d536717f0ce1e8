use Rattle.std.proofs.Common.{rules}
use Rattle.directory_node.proofs.node.Node.offering.Goals as goal

pub returns-clause-planned : goal.returns-clause-planned
returns-clause-planned c = search rules

pub returns-clause-change : goal.returns-clause-change
returns-clause-change c = search rules
