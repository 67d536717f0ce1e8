use Rattle.std.proofs.Common.{◌+◌, sym, ◌∙◌, arith}
use Rattle.host_activations.proofs.AnyFirm.{in_both_stretches, in_first_stretch, in_one_stretch}
use Rattle.host_activations.proofs.activations.any_firm.any_by_hash.Goals as goal

pub returns-then-end-le-CIRCLE : goal.returns-then-end-le-CIRCLE
returns-then-end-le-CIRCLE c =
    in_one_stretch c.args.asked.now c.in_range.ensures c.requires.none c.requires.from c.args.held.now c.requires.apart
    c.args.by_hash.now.entries c.requires.by_hash c.any_between.ensures.ordered c.from-first.result (c.from-first.result + c.size.result)
    (omega (arith, c.from-first.ensures, c.start.ensures)) (omega (arith, c.from-first.ensures, c.start.ensures, c.size.ensures.value))
    (omega arith) c.any_between.result c.any_between.ensures.any

pub returns-then-any_between : goal.returns-then-any_between
returns-then-any_between c =
    in_first_stretch c.args.asked.now c.in_range.ensures c.requires.none c.requires.from c.args.held.now c.requires.apart
    c.args.by_hash.now.entries c.requires.by_hash c.any_between-2.ensures.ordered c.from-first.result (c.from-first.result + c.size.result)
    (omega (arith, c.from-first.ensures, c.start.ensures)) (omega (arith, c.from-first.ensures, c.start.ensures, c.size.ensures.value))
    (omega arith) (sym c.if-any_between.true ∙ c.any_between-2.ensures.any)

pub returns : goal.returns
returns c =
    in_both_stretches c.args.asked.now c.in_range.ensures c.requires.none c.requires.from c.args.held.now c.requires.apart
    c.args.by_hash.now.entries c.requires.by_hash c.any_between-2.ensures.ordered c.from-first.result (c.from-first.result + c.size.result)
    (omega (arith, c.from-first.ensures, c.start.ensures)) (omega (arith, c.from-first.ensures, c.start.ensures, c.size.ensures.value))
    (omega arith) (sym c.if-any_between.false ∙ c.any_between-2.ensures.any) c.any_between-3.result c.any_between-3.ensures.any
