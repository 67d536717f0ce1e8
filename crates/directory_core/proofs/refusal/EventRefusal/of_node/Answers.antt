use Rattle.directory_node.proofs.Numbered.{node_numbered}
use Rattle.directory_core.proofs.refusal.EventRefusal.of_node.Goals as goal

pub returns-in_default-clause-numbered : goal.returns-in_default-clause-numbered
returns-in_default-clause-numbered c = node_numbered _ c.args.refusal c.in_default.not-OutOfMemory
