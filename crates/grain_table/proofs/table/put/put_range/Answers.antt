use Rattle.std.proofs.Common.{◌∙◌, arith}
use Rattle.grain_table.proofs.Within.{put_one, put_two}
use Rattle.grain_table.proofs.table.put.put_range.Goals as goal

pub returns-then-end-le-CIRCLE : goal.returns-then-end-le-CIRCLE
returns-then-end-le-CIRCLE c =
    put_one c.args.range.now c.in_range.ensures c.start-start.result c.from.result c.size.result c.start-start.ensures
    (c.from.ensures ∙ c.start-start.ensures) c.size.ensures.value (omega arith) c.args.table c.args.from.now c.requires
    c.put_stretch.result c.put_stretch.ensures

pub returns : goal.returns
returns c =
    put_two c.args.range.now c.in_range.ensures c.start-start.result c.from.result c.size.result c.start-start.ensures
    (c.from.ensures ∙ c.start-start.ensures) c.size.ensures.value (omega arith) c.args.table c.args.from.now c.requires
    c.in_ok-table.table c.in_ok-table.ensures c.put_stretch-3.result c.put_stretch-3.ensures
