use Rattle.std.proofs.Common.{rules}
use Rattle.lookup_cache.proofs.cache.Cache.new.Goals as goal

pub returns-then-capacity-gt-MOST_HINTS-clause-capacity : goal.returns-then-capacity-gt-MOST_HINTS-clause-capacity
returns-then-capacity-gt-MOST_HINTS-clause-capacity c = search rules
