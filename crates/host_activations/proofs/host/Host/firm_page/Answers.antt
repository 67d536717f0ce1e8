use Rattle.std.proofs.Common.{ap, subst}
use Rattle.std.specs.Prelude.{IfOk}
use Rattle.directory_rules.specs.State.{Host}
use Rattle.directory_rules.specs.Host.{firm_behind}
use Rattle.host_activations.specs.Page.{IsPage}
use Rattle.host_activations.proofs.host.Host.firm_page.Goals as goal

pub returns : goal.returns
returns c =
    subst (λ l. IfOk c.firm_page.result (IsPage l c.args.asked.now.most))
    (ap (λ (h : Host). firm_behind c.args.asked.now.hashing h c.args.asked.now.range c.args.asked.now.after) c.self.view_is)
    c.firm_page.ensures
