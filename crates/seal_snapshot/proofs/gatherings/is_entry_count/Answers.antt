use Rattle.std.proofs.Common.{rules}
use Rattle.seal_snapshot.proofs.gatherings.is_entry_count.Goals as goal

pub returns : goal.returns
returns c = search rules
