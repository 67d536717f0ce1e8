use Rattle.std.proofs.Common.{◌∙◌}
use Rattle.dumps.proofs.DumpShapes.{row_is}
use Rattle.dumps.proofs.shape.is_row.Goals as goal

pub returns : goal.returns
returns c = c.all_hold.ensures ∙ row_is c.args.dump.now c.args.row.now _ _ c.has_joined.ensures c.has_places.ensures
