use Rattle.std.proofs.Common.{rules}
use Rattle.grain_table.proofs.table.Table.register.Goals as goal

pub returns-clause-reply : goal.returns-clause-reply
returns-clause-reply c = search rules
