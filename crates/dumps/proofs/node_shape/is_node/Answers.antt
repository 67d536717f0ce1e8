use Rattle.std.proofs.Common.{◌∙◌}
use Rattle.dumps.proofs.NodeShapes.{node_is}
use Rattle.dumps.proofs.node_shape.is_node.Goals as goal

pub returns : goal.returns
returns c =
    c.all_hold.ensures
    ∙ node_is c.args.dump.now c.args.silos.now c.args.node.now c.requires _ _ _ _ _ _ _
    c.names_known_silos.ensures c.holds_its_own.ensures c.in_ok-activations_once.ensures c.in_ok-grains_once.ensures
    c.has_seen_a_version.ensures c.in_ok-in_order.ensures c.are_pieces.ensures
