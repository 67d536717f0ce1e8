use Rattle.std.proofs.Common.{sym}
use Rattle.dumps.proofs.distinct.are_distinct.Goals as goal

pub returns-then-is_rising : goal.returns-then-is_rising
returns-then-is_rising g c = sym (c.is_rising.ensures c.if-is_rising.true)
