use Rattle.std.proofs.Common.{rules}
use Rattle.grain_table.proofs.table.Table.get.Goals as goal

pub at-requires : goal.at-requires
at-requires c = search rules
