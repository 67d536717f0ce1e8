use Rattle.std.proofs.Common.{sym, ◌∙◌, arith}
use Rattle.host_activations.specs.Listing.{asked_for}
use Rattle.host_activations.proofs.AnyFirm.{none_left, rest_left, some_left}
use Rattle.host_activations.proofs.activations.any_firm.any_among_all.Goals as goal

pub returns-then-is_asked_for : goal.returns-then-is_asked_for
returns-then-is_asked_for c =
    some_left c.args.asked.now c.args.held.now c.loop-index.index _ (sym c.in-Some.ensures) (asked_for c.args.asked.now c.args.held.now)
    c.loop-index.invariant (sym c.is_asked_for.ensures ∙ c.if-is_asked_for.true)

pub loop-index-preserved : goal.loop-index-preserved
loop-index-preserved c =
    rest_left c.args.asked.now c.args.held.now c.loop-index.index _ (sym c.in-Some.ensures) (asked_for c.args.asked.now c.args.held.now)
    c.loop-index.invariant (sym c.is_asked_for.ensures ∙ c.if-is_asked_for.false)

pub returns : goal.returns
returns c =
    none_left c.args.asked.now c.args.held.now c.loop-index.index (omega arith) (asked_for c.args.asked.now c.args.held.now)
    c.loop-index.invariant
