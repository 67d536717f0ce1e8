use Rattle.std.proofs.Common.{ap, ◌∙◌}
use Rattle.directory_rules.specs.State.{Host}
use Rattle.directory_rules.specs.Host.{is_outstanding}
use Rattle.host_activations.proofs.OutstandingActs.{outstanding_is}
use Rattle.host_activations.proofs.host.Host.is_outstanding.Goals as goal

pub returns : goal.returns
returns c =
    c.contains_key.ensures
    ∙ outstanding_is c.self.inside.silo c.self.inside.next_number c.self.inside.held.next_count c.self.inside.held.entries
    c.self.inside.outstanding.entries c.self.invariant.are_held c.args.number
    ∙ ap (λ (h : Host). is_outstanding h c.args.number) c.self.view_is
