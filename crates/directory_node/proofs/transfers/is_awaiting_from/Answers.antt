use Rattle.std.proofs.Common.{rules}
use Rattle.directory_node.proofs.transfers.is_awaiting_from.Goals as goal

pub returns-in-Awaiting : goal.returns-in-Awaiting
returns-in-Awaiting c = search rules
