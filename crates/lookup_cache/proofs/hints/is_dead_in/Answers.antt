use Rattle.std.proofs.Common.{rules}
use Rattle.lookup_cache.proofs.hints.is_dead_in.Goals as goal

pub returns-in-Some : goal.returns-in-Some
returns-in-Some c = search rules
