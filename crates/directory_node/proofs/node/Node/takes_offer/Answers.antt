use Rattle.std.proofs.Common.{rules, tests}
use Rattle.directory_node.proofs.node.Node.takes_offer.Goals as goal

pub returns-then-has_numbers : goal.returns-then-has_numbers
returns-then-has_numbers c = search (rules, tests)

pub returns-else-has_numbers : goal.returns-else-has_numbers
returns-else-has_numbers c = search (rules, tests)
