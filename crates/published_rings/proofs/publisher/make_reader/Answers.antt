use Rattle.published_rings.proofs.Steps.{admits, tells, hears}
use Rattle.published_rings.proofs.publisher.make_reader.Goals as goal

pub reader-requires : goal.reader-requires
reader-requires c = admits

pub tell-requires : goal.tell-requires
tell-requires c = tells _ _

pub learn-requires-clause-rule : goal.learn-requires-clause-rule
learn-requires-clause-rule c = hears _ _ _ _
