use Rattle.std.proofs.Common.{rules}
use Rattle.seal_snapshot.proofs.gatherings.Gathering.is_in_turn.Goals as goal

pub returns-then-agrees : goal.returns-then-agrees
returns-then-agrees c = search rules
