use Rattle.published_rings.proofs.Steps.{opens}
use Rattle.published_rings.proofs.publisher.open.Goals as goal

pub new-requires-clause-rule : goal.new-requires-clause-rule
new-requires-clause-rule g c = opens c.in_ok-first.first
