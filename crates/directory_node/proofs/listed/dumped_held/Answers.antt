use Rattle.std.proofs.Common.{rules}
use Rattle.directory_node.proofs.listed.dumped_held.Goals as goal

pub returns : goal.returns
returns c = search rules
