use Rattle.std.proofs.Common.{◌∙◌}
use Rattle.dumps.proofs.NodeShapes.{piece_is}
use Rattle.dumps.proofs.piece_shape.is_piece.Goals as goal

pub returns : goal.returns
returns c =
    c.all_hold.ensures
    ∙ piece_is c.args.piece.now _ _ _ c.has_entries_if_settled.ensures c.has_from_if_awaiting.ensures c.has_entries_in_order.ensures
