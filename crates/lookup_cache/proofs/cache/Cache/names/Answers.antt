use Rattle.std.proofs.Common.{rules}
use Rattle.lookup_cache.proofs.cache.Cache.names.Goals as goal

pub returns-in-Some : goal.returns-in-Some
returns-in-Some c = search rules
