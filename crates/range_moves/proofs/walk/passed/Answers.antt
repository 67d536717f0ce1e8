use Rattle.std.proofs.Common.{rules}
use Rattle.range_moves.proofs.walk.passed.Goals as goal

pub loop-point-preserved : goal.loop-point-preserved
loop-point-preserved c = search rules

pub returns-then-point-place : goal.returns-then-point-place
returns-then-point-place c = search rules
