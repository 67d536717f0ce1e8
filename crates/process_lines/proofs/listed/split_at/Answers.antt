use Rattle.std.proofs.Common.{arith}
use Rattle.process_lines.proofs.CutAtColons.{behind_shorter, cut, uncut, whole_cut}
use Rattle.process_lines.proofs.listed.split_at.Goals as goal

pub returns-then-end-bytes-clause-pieces : goal.returns-then-end-bytes-clause-pieces
returns-then-end-bytes-clause-pieces c =
    uncut c.args.mark c.first_position-end.result c.args.bytes.now c.first_position-end.ensures.first (omega arith)

pub returns-clause-pieces : goal.returns-clause-pieces
returns-clause-pieces c =
    cut c.args.mark c.first_position-end.result c.args.bytes.now c.first_position-end.ensures.first (omega arith)

pub returns-clause-whole : goal.returns-clause-whole
returns-clause-whole c =
    whole_cut c.args.mark c.first_position-end.result c.args.bytes.now c.first_position-end.ensures.first (omega arith)

pub returns-clause-shorter : goal.returns-clause-shorter
returns-clause-shorter c =
    behind_shorter c.args.mark c.first_position-end.result c.args.bytes.now c.first_position-end.ensures.first (omega arith)
