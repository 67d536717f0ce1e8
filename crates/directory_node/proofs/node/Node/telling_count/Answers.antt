use Rattle.std.proofs.Common.{arith}
use Rattle.directory_node.proofs.ManyRanges.{with_empty, without_empty}
use Rattle.directory_node.proofs.node.Node.telling_count.Goals as goal

pub returns-then-reports-ranges : goal.returns-then-reports-ranges
returns-then-reports-ranges c =
    with_empty c.args.self.now c.args.letter.now c.args.ranges.now c.report_count-reports.result c.report_count-reports.ensures (omega arith)

pub returns-else-reports-ranges : goal.returns-else-reports-ranges
returns-else-reports-ranges c =
    without_empty c.args.self.now c.args.letter.now c.args.ranges.now c.report_count-reports.result c.report_count-reports.ensures (omega arith)
