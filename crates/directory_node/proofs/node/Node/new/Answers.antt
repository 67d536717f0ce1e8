use Rattle.std.proofs.Common.{rules}
use Rattle.directory_node.proofs.node.Node.new.Goals as goal

pub returns : goal.returns
returns c = search rules
