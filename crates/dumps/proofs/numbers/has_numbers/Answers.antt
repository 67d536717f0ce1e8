use Rattle.std.proofs.Common.{◌∙◌}
use Rattle.dumps.proofs.NodeShapes.{numbers_told}
use Rattle.dumps.proofs.numbers.has_numbers.Goals as goal

pub returns : goal.returns
returns c =
    c.all_hold.ensures
    ∙ numbers_told c.args.dump.now _ _ _ c.version_fits.ensures c.has_number_of_points.ensures c.have_row_numbers.ensures
    c.have_node_numbers.ensures
