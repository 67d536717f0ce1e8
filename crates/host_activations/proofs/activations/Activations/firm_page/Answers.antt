use Rattle.std.proofs.lemmas.Result.{IfOk-weaker}
use Rattle.host_activations.proofs.Pages.{page_is}
use Rattle.host_activations.proofs.activations.Activations.firm_page.Goals as goal

pub returns : goal.returns
returns c =
    IfOk-weaker c.page_of.result _ _
    (λ page is. page_is c.args.asked.now c.args.silo c.args.self.now.entries c.whole.ensures.grains c.in_ok-firm.firm.items
    c.sort_unstable.new.self.items c.in_ok-firm.ensures c.sort_unstable.ensures.permutation c.sort_unstable.ensures.sorted page is)
    (rw c.deref.ensures.value at c.page_of.ensures)
