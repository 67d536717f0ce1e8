use Rattle.dumps.proofs.lent_grain.LentGrain.id.Goals as goal

pub unreachable-requires : goal.unreachable-requires
unreachable-requires c =
    let is = c.in-Err.ensures.only c.args.self.now c.in_range.ensures c.as_bytes.ensures in
    cc

pub returns : goal.returns
returns c =
    let is = c.in-Ok.ensures.only c.args.self.now c.in_range.ensures c.as_bytes.ensures in
    cc
