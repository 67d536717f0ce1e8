use Rattle.host_activations.proofs.Beginnings.{finding_is, finding_means}
use Rattle.host_activations.proofs.HostKept.{free}
use Rattle.host_activations.proofs.host.Host.ask.Goals as goal

pub insert-requires : goal.insert-requires
insert-requires c =
    record { free = free c.self.inside.next_number c.self.inside.held.entries c.self.inside.outstanding.entries c.self.invariant.are_held }

pub invariant_of-self-2 : goal.invariant_of-self-2
invariant_of-self-2 c =
    finding_is c.self.inside c.self.invariant c.args.self.now c.self.view_is c.insert.new.self.entries c.args.grain c.requires.number
    c.in_ok-insert.ensures.entries

pub returns-clause-asking : goal.returns-clause-asking
returns-clause-asking c =
    finding_means c.self.inside c.self.invariant c.args.self.now c.self.view_is c.insert.new.self.entries c.args.grain
    c.in_ok-insert.ensures.entries
