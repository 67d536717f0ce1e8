use Rattle.std.proofs.Common.{◌+◌, arith}
use Rattle.std.proofs.lemmas.Result.{IfOk-weaker}
use Rattle.host_activations.proofs.FirstByHash.{by_both_stretches, by_first_stretch, by_one_stretch, by_stretch_over}
use Rattle.host_activations.proofs.activations.page.first_by_hash.Goals as goal

pub returns-then-first-ge-CIRCLE : goal.returns-then-first-ge-CIRCLE
returns-then-first-ge-CIRCLE c =
    IfOk-weaker c.list_between.result _ _
    (λ new adds. by_stretch_over c.args.asked.now c.in_range.ensures c.args.held.now c.requires.apart c.args.by_hash.now.entries
    c.requires.by_hash c.list_between.ensures.ordered (c.from.result + c.first_step.result) (c.from-2.result + c.size.result)
    (omega (arith, c.from.ensures, c.start.ensures, c.first_step.ensures.value))
    (omega (arith, c.from-2.ensures, c.start-2.ensures, c.size.ensures.value)) c.new-firm.result.items new.items c.new-firm.ensures.items
    (omega arith) (omega (
      arith,
      c.from.ensures,
      c.start.ensures,
      c.from-2.ensures,
      c.start-2.ensures,
      c.first_step.ensures.within,
      c.size.ensures.value,
    )) adds)
    c.list_between.ensures.added

pub returns-then-end-le-CIRCLE : goal.returns-then-end-le-CIRCLE
returns-then-end-le-CIRCLE c =
    IfOk-weaker c.list_between-then-end-le-CIRCLE.result _ _
    (λ new adds. by_one_stretch c.args.asked.now c.in_range.ensures c.args.held.now c.requires.apart c.args.by_hash.now.entries
    c.requires.by_hash c.list_between-then-end-le-CIRCLE.ensures.ordered (c.from.result + c.first_step.result) (c.from-2.result + c.size.result)
    (omega (arith, c.from.ensures, c.start.ensures, c.first_step.ensures.value))
    (omega (arith, c.from-2.ensures, c.start-2.ensures, c.size.ensures.value)) c.new-firm.result.items new.items c.new-firm.ensures.items
    (omega arith) adds)
    c.list_between-then-end-le-CIRCLE.ensures.added

pub returns-then-asked-len : goal.returns-then-asked-len
returns-then-asked-len c =
    by_first_stretch c.args.asked.now c.in_range.ensures c.args.held.now c.requires.apart c.args.by_hash.now.entries
    c.requires.by_hash c.in_ok-firm.ensures.ordered (c.from.result + c.first_step.result) (c.from-2.result + c.size.result)
    (omega (arith, c.from.ensures, c.start.ensures, c.first_step.ensures.value))
    (omega (arith, c.from-2.ensures, c.start-2.ensures, c.size.ensures.value)) c.new-firm.result.items c.in_ok-firm.firm.items
    c.new-firm.ensures.items (omega arith) c.in_ok-firm.ensures.added (omega arith)

pub returns : goal.returns
returns c =
    IfOk-weaker c.list_between-3.result _ _
    (λ new adds. by_both_stretches c.args.asked.now c.in_range.ensures c.args.held.now c.requires.apart c.args.by_hash.now.entries
    c.requires.by_hash c.list_between-3.ensures.ordered (c.from.result + c.first_step.result) (c.from-2.result + c.size.result)
    (omega (arith, c.from.ensures, c.start.ensures, c.first_step.ensures.value))
    (omega (arith, c.from-2.ensures, c.start-2.ensures, c.size.ensures.value)) c.new-firm.result.items new.items c.new-firm.ensures.items
    (omega arith) c.in_ok-firm.firm.items c.in_ok-firm.ensures.added (omega arith) adds)
    c.list_between-3.ensures.added
