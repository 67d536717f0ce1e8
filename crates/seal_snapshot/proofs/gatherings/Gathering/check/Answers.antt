use Rattle.std.proofs.Common.{rules}
use Rattle.seal_snapshot.proofs.gatherings.Gathering.check.Goals as goal

pub returns-then-not-is_in_turn : goal.returns-then-not-is_in_turn
returns-then-not-is_in_turn c = search rules
