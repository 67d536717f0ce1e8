use Rattle.std.proofs.Common.{sym}
use Rattle.host_activations.proofs.Stretches.{asked_on}
use Rattle.host_activations.proofs.activations.page.firm_among_all.Goals as goal

pub loop-index-preserved : goal.loop-index-preserved
loop-index-preserved c =
    asked_on c.args.asked.now c.args.held.now c.loop-index.index _ (sym c.in-Some.ensures) c.loop-index.firm.items
    c.list_firm.new.firm.items c.in_ok-list_firm.ensures c.loop-index.invariant
