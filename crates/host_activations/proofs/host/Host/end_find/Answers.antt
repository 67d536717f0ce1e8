use Rattle.std.proofs.Common.{sym}
use Rattle.host_activations.proofs.Finds.{is_find}
use Rattle.host_activations.proofs.Endings.{found_is, found_means, not_found_means}
use Rattle.host_activations.proofs.host.Host.end_find.Goals as goal

pub returns-in_default : goal.returns-in_default
returns-in_default c =
    not_found_means c.self.inside c.self.invariant c.args.self.now c.self.view_is c.args.number (sym c.in_default.ensures)

pub invariant_of-self : goal.invariant_of-self
invariant_of-self c =
    found_is c.self.inside c.self.invariant c.remove.new.self.entries c.args.number c.in-Some.field-0
    (is_find _ c.in-Some.field-0 (sym c.in-Some.ensures)) c.remove.ensures.entries

pub returns : goal.returns
returns c =
    found_means c.self.inside c.self.invariant c.remove.new.self.entries c.args.number c.in-Some.field-0
    (is_find _ c.in-Some.field-0 (sym c.in-Some.ensures)) c.remove.ensures.entries
    c.args.self.now c.self.view_is
