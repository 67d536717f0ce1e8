use Rattle.std.proofs.Common.{◌∙◌}
use Rattle.dumps.proofs.DumpShapes.{shape_is}
use Rattle.dumps.proofs.shape.has_shape_by.Goals as goal

pub returns : goal.returns
returns c =
    c.all_hold.ensures
    ∙ shape_is c.args.dump.now c.args.rows.now c.args.nodes.now _ _ _ _ _ _ c.requires.rows c.requires.nodes
    c.in_ok-rows_once.ensures c.in_ok-nodes_once.ensures c.are_in_order-rows_in_order.ensures c.are_in_order-nodes_in_order.ensures
    c.are_rows.ensures c.in_ok-all_nodes.ensures
