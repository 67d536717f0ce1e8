use Rattle.dump_rules.proofs.RightShapes.{Decides-is_dump}
use Rattle.dump_rules.proofs.laws.dumps_have_their_shape.Goals as goal

pub returns : goal.returns
returns c = Decides-is_dump
