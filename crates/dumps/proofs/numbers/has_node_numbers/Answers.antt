use Rattle.std.proofs.Common.{◌∙◌}
use Rattle.dumps.proofs.NodeShapes.{node_told}
use Rattle.dumps.proofs.numbers.has_node_numbers.Goals as goal

pub returns : goal.returns
returns c = c.all_hold.ensures ∙ node_told c.args.node.now _ _ c.seen_fits.ensures c.has_ring_numbers.ensures c.has_ranges.ensures
