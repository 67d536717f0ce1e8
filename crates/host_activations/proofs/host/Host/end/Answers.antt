use Rattle.std.proofs.Common.{ap, ◌∙◌}
use Rattle.host_activations.specs.Activations.{ActivationsValue}
use Rattle.host_activations.proofs.Endings.{ended_is, ended_means, freed, without_number}
use Rattle.host_activations.proofs.Fields.{meant}
use Rattle.host_activations.proofs.host.Host.end.Goals as goal

pub invariant_of-self : goal.invariant_of-self
invariant_of-self c =
    ended_is c.self.inside c.self.invariant c.end.new.self.entries c.free.new.outstanding.entries c.args.grain.now
    (ap (λ (v : ActivationsValue). v.entries) c.end.ensures) c.whole.ensures.grains
    (freed _ _ _ c.free.ensures ∙ ap (λ number. without_number number c.self.inside.outstanding.entries) c.number_of-number.ensures)

pub returns : goal.returns
returns c =
    (λ i. meant c.self.inside.silo c.self.inside.next_number (ap (λ (v : ActivationsValue). v.next_count) c.end.ensures i)
    c.end.new.self.entries c.free.new.outstanding.entries)
    ∙ ended_means c.self.inside c.self.invariant c.args.self.now c.self.view_is c.end.new.self.entries c.free.new.outstanding.entries
    c.args.grain.now
    (ap (λ (v : ActivationsValue). v.entries) c.end.ensures)
    (freed _ _ _ c.free.ensures ∙ ap (λ number. without_number number c.self.inside.outstanding.entries) c.number_of-number.ensures)
