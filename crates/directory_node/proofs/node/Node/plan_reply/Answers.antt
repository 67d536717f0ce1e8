use Rattle.std.proofs.Common.{rules}
use Rattle.directory_node.proofs.node.Node.plan_reply.Goals as goal

pub returns-in-Registered : goal.returns-in-Registered
returns-in-Registered c = search rules

pub returns-in-Taken : goal.returns-in-Taken
returns-in-Taken c = search rules

pub returns-in-Found : goal.returns-in-Found
returns-in-Found c = search rules

pub returns-in-Nothing : goal.returns-in-Nothing
returns-in-Nothing c = search rules

pub returns-in-Removed : goal.returns-in-Removed
returns-in-Removed c = search rules
