use Rattle.std.proofs.Common.{rules}
use Rattle.seal_snapshot.proofs.gatherings.Gathering.take.Goals as goal

pub returns-then-not-has_digest-clause-refused : goal.returns-then-not-has_digest-clause-refused
returns-then-not-has_digest-clause-refused c = search rules
