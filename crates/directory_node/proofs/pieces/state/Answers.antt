use Rattle.std.proofs.Common.{rules}
use Rattle.directory_node.proofs.pieces.state.Goals as goal

pub returns-in-Awaiting : goal.returns-in-Awaiting
returns-in-Awaiting c = search rules
