use Rattle.std.proofs.Common.{ap, ◌∙◌, ◌==◌, None, length, not}
use Rattle.directory_rules.specs.Host.{firm_behind}
use Rattle.directory_rules.specs.State.{Host}
use Rattle.host_activations.specs.HostModel.{host_of}
use Rattle.host_activations.proofs.AnyFirm.{none_is}
use Rattle.host_activations.proofs.host.Host.has_none_firm.Goals as goal

pub returns : goal.returns
returns c =
    let firm = firm_behind c.args.hashing (host_of c.self.inside) c.args.range None in
    ap not (c.has_firm.ensures c.self.inside.silo)
    ∙ none_is (length firm)
    ∙ ap (λ (h : Host). length (firm_behind c.args.hashing h c.args.range None) == 0) c.self.view_is
