use Rattle.std.proofs.Common.{rules}
use Rattle.lookup_cache.proofs.hints.bring_to_front.Goals as goal

pub returns-clause-front : goal.returns-clause-front
returns-clause-front c = search rules
