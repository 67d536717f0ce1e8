use Rattle.std.proofs.Common.{rules}
use Rattle.dumps.proofs.values.number.Goals as goal

pub returns-clause-read : goal.returns-clause-read
returns-clause-read c = search rules
