use Rattle.std.proofs.Common.{rules}
use Rattle.grain_table.proofs.table.Table.deregister.Goals as goal

pub returns-then-ne-clause-reply : goal.returns-then-ne-clause-reply
returns-then-ne-clause-reply c = search rules
