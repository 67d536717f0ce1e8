use Rattle.std.proofs.Common.{◌≡◌, sym, ap, subst, ◌∙◌, ◌+◌, Some, None}
use Rattle.std.specs.Prelude.{IfSome}
use Rattle.directory_rules.specs.State.{Host}
use Rattle.directory_rules.specs.Host.{held_of, with_closing}
use Rattle.directory_rules.specs.declared.Phase.TheVariants.{Closing}
use Rattle.host_activations.specs.Activations.{ActivationsValue}
use Rattle.host_activations.specs.HostModel.{host_of}
use Rattle.host_activations.proofs.Fields.{meant}
use Rattle.host_activations.proofs.Beginnings.{closing_is, closing_means}
use Rattle.host_activations.proofs.Endings.{freed, without_number}
use Rattle.host_activations.proofs.HostKept.{free}
use Rattle.host_activations.proofs.Setting.{set_there, set_to}
use Rattle.host_activations.proofs.host.Host.begin_to_close.Goals as goal

pub insert-requires : goal.insert-requires
insert-requires c =
    record { free = free c.self.inside.next_number c.self.inside.held.entries c.self.inside.outstanding.entries c.self.invariant.are_held }

pub invariant_of-self-2 : goal.invariant_of-self-2
invariant_of-self-2 c =
    let there : held_of (host_of c.self.inside) c.args.grain.now ≡ Some c.unwrap-held.result = sym c.get.ensures ∙ c.unwrap-held.ensures in
    let set : c.set.new.self ≡ set_to c.args.grain.now c.self.inside.held c.unwrap-held.result (Closing c.self.inside.next_number) None =
    set_there c.args.grain.now c.self.inside.held c.set.new.self (Closing c.self.inside.next_number) None c.unwrap-held.result there
    c.set.ensures in
    closing_is c.self.inside c.self.invariant c.args.self.now c.self.view_is c.set.new.self.entries c.free.new.outstanding.entries
    c.args.grain.now c.unwrap-held.result there
    (ap (λ (v : ActivationsValue). v.entries) set)
    (freed _ _ _ c.free.ensures ∙ (λ i. without_number (c.number_in.ensures i) (c.in_ok-insert.ensures.entries i)))
    c.requires.number c.whole.ensures.grains

pub returns-clause-closing : goal.returns-clause-closing
returns-clause-closing c =
    let there : held_of (host_of c.self.inside) c.args.grain.now ≡ Some c.unwrap-held.result = sym c.get.ensures ∙ c.unwrap-held.ensures in
    let found : held_of c.args.self.now c.args.grain.now ≡ Some c.unwrap-held.result = ap (λ (h : Host). held_of h c.args.grain.now) (sym c.self.view_is) ∙ there in
    let set : c.set.new.self ≡ set_to c.args.grain.now c.self.inside.held c.unwrap-held.result (Closing c.self.inside.next_number) None =
    set_there c.args.grain.now c.self.inside.held c.set.new.self (Closing c.self.inside.next_number) None c.unwrap-held.result there
    c.set.ensures in
    let now : Host = meant c.self.inside.silo (c.self.inside.next_number + 1) c.set.new.self.next_count c.set.new.self.entries c.free.new.outstanding.entries in
    subst (λ o. IfSome o (λ held. now ≡ with_closing c.args.self.now c.args.grain.now held)) (sym found)
    ((λ i. meant c.self.inside.silo (c.self.inside.next_number + 1) (ap (λ (v : ActivationsValue). v.next_count) set i)
    c.set.new.self.entries c.free.new.outstanding.entries)
    ∙ closing_means c.self.inside c.self.invariant c.args.self.now c.self.view_is c.set.new.self.entries c.free.new.outstanding.entries
    c.args.grain.now c.unwrap-held.result there
    (ap (λ (v : ActivationsValue). v.entries) set)
    (freed _ _ _ c.free.ensures ∙ (λ i. without_number (c.number_in.ensures i) (c.in_ok-insert.ensures.entries i))))
