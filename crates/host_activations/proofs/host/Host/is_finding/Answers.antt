use Rattle.std.proofs.Common.{ap, sym, ◌∙◌, is_some}
use Rattle.directory_rules.specs.State.{Host}
use Rattle.directory_rules.specs.Host.{is_finding}
use Rattle.host_activations.proofs.Finds.{find_under}
use Rattle.host_activations.proofs.host.Host.is_finding.Goals as goal

pub returns : goal.returns
returns c =
    c.is_some.ensures
    ∙ ap is_some (c.find_under.ensures ∙ sym (find_under c.self.inside.outstanding.entries c.self.invariant.are_held.in_order
    c.args.number))
    ∙ ap (λ (h : Host). is_finding h c.args.number) c.self.view_is
