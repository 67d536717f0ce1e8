use Rattle.std.proofs.Common.{rules}
use Rattle.grain_table.proofs.table.put.key_under.Goals as goal

pub returns-then-same-clause-is_key : goal.returns-then-same-clause-is_key
returns-then-same-clause-is_key c = search rules
