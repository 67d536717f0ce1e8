use Rattle.published_rings.proofs.Steps.{looks}
use Rattle.published_rings.proofs.reader.look.Goals as goal

pub enter_as-requires : goal.enter_as-requires
enter_as-requires c = looks _ _
