use Rattle.std.proofs.Common.{rules, tests}
use Rattle.directory_node.proofs.node.Node.is_next.Goals as goal

pub returns-then-version : goal.returns-then-version
returns-then-version c = search (rules, tests)

pub returns-then-is_none : goal.returns-then-is_none
returns-then-is_none c = search (rules, tests)

pub returns-else-is_none : goal.returns-else-is_none
returns-else-is_none c = search (rules, tests)
