use Rattle.std.proofs.Common.{◌∙◌}
use Rattle.dumps.proofs.NodeShapes.{row_told}
use Rattle.dumps.proofs.numbers.has_row_numbers.Goals as goal

pub returns : goal.returns
returns c =
    c.has_hashes.ensures ∙ row_told c.args.row.now c.versions_fit.ensures.dead c.versions_fit.ensures.joined c.versions_fit.ensures.left
