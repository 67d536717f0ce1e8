use Rattle.std.proofs.Common.{rules}
use Rattle.seal_snapshot.proofs.gatherings.Gathering.progress_with.Goals as goal

pub returns-else-has_digest-clause-judged : goal.returns-else-has_digest-clause-judged
returns-else-has_digest-clause-judged c = search rules
