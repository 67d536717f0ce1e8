use Rattle.std.proofs.Common.{rules}
use Rattle.grain_table.proofs.table.Table.insert_new.Goals as goal

pub returns-clause-put : goal.returns-clause-put
returns-clause-put c = search rules
