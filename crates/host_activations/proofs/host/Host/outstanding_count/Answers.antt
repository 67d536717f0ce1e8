use Rattle.std.proofs.Common.{sym, ap, ◌∙◌, length}
use Rattle.directory_rules.specs.State.{Host}
use Rattle.directory_rules.specs.Host.{outstanding}
use Rattle.host_activations.proofs.OutstandingActs.{as_many}
use Rattle.host_activations.proofs.host.Host.outstanding_count.Goals as goal

pub returns : goal.returns
returns c =
    c.len.ensures
    ∙ sym (as_many c.self.inside.silo c.self.inside.next_number c.self.inside.held.next_count c.self.inside.held.entries
    c.self.inside.outstanding.entries c.self.invariant.are_held)
    ∙ ap (λ (h : Host). length (outstanding h)) c.self.view_is
