use Rattle.std.proofs.Common.{ap, ◌∙◌, ◌+◌}
use Rattle.std.specs.Map.{remove_entry}
use Rattle.std.specs.BTreeMap.{is_at}
use Rattle.std.specs.Ordering.{nat_cmp}
use Rattle.host_activations.specs.declared.asked.OutstandingRequest.TheVariants.{Activation}
use Rattle.host_activations.specs.Activations.{ActivationsValue}
use Rattle.host_activations.proofs.Beginnings.{not_started_is, not_started_means, started_is, started_means}
use Rattle.host_activations.proofs.Fields.{meant}
use Rattle.host_activations.proofs.HostKept.{free}
use Rattle.host_activations.proofs.Setting.{put_back}
use Rattle.host_activations.proofs.host.Host.start.Goals as goal

pub insert-requires : goal.insert-requires
insert-requires c =
    record { free = free c.self.inside.next_number c.self.inside.held.entries c.self.inside.outstanding.entries c.self.invariant.are_held }

pub invariant_of-self-in-Err : goal.invariant_of-self-in-Err
invariant_of-self-in-Err c =
    not_started_is c.self.inside c.self.invariant c.begin.new.self c.remove.new.self.entries c.in-Err.ensures.unchanged
    (c.remove.ensures.entries ∙ ap (λ l. remove_entry (is_at (nat_cmp c.self.inside.next_number)) l) c.in_ok-insert.ensures.entries
    ∙ put_back c.self.inside.next_number (Activation c.args.grain) c.self.inside.outstanding.entries c.self.invariant.are_held.in_order
    (free c.self.inside.next_number c.self.inside.held.entries c.self.inside.outstanding.entries c.self.invariant.are_held))

pub returns-in-Err-clause-unchanged : goal.returns-in-Err-clause-unchanged
returns-in-Err-clause-unchanged c =
    not_started_means c.self.inside c.self.invariant c.args.self.now c.self.view_is c.begin.new.self c.remove.new.self.entries
    c.in-Err.ensures.unchanged
    (c.remove.ensures.entries ∙ ap (λ l. remove_entry (is_at (nat_cmp c.self.inside.next_number)) l) c.in_ok-insert.ensures.entries
    ∙ put_back c.self.inside.next_number (Activation c.args.grain) c.self.inside.outstanding.entries c.self.invariant.are_held.in_order
    (free c.self.inside.next_number c.self.inside.held.entries c.self.inside.outstanding.entries c.self.invariant.are_held))

pub invariant_of-self-in-Ok : goal.invariant_of-self-in-Ok
invariant_of-self-in-Ok c =
    started_is c.self.inside c.self.invariant c.args.self.now c.self.view_is c.begin.new.self.entries c.insert.new.self.entries c.args.grain
    c.args.previous
    c.requires.new c.requires.number (ap (λ (v : ActivationsValue). v.entries) c.in-Ok.ensures.begun) c.whole.ensures.grains
    c.in_ok-insert.ensures.entries

pub returns-in-Ok-clause-started : goal.returns-in-Ok-clause-started
returns-in-Ok-clause-started c =
    (λ i. meant c.self.inside.silo (c.self.inside.next_number + 1) (ap (λ (v : ActivationsValue). v.next_count) c.in-Ok.ensures.begun i)
    c.begin.new.self.entries c.insert.new.self.entries)
    ∙ started_means c.self.inside c.self.invariant c.args.self.now c.self.view_is c.begin.new.self.entries c.insert.new.self.entries
    c.args.grain c.args.previous
    (ap (λ (v : ActivationsValue). v.entries) c.in-Ok.ensures.begun) c.in_ok-insert.ensures.entries
