use Rattle.std.proofs.Common.{rules}
use Rattle.directory_node.proofs.node.Node.is_report_awaited.Goals as goal

pub returns-then-are_all_of : goal.returns-then-are_all_of
returns-then-are_all_of c = search rules

pub returns-else-are_all_of : goal.returns-else-are_all_of
returns-else-are_all_of c = search rules
