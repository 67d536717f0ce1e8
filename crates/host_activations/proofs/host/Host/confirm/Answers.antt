use Rattle.std.proofs.Common.{◌≡◌, sym, ap, subst, ◌∙◌, None}
use Rattle.std.specs.Prelude.{MatchOption}
use Rattle.directory_rules.specs.State.{Host}
use Rattle.directory_rules.specs.Host.{confirmed}
use Rattle.directory_rules.specs.declared.Phase.TheVariants.{Firm}
use Rattle.host_activations.specs.Activations.{ActivationsValue}
use Rattle.host_activations.proofs.Fields.{meant}
use Rattle.host_activations.proofs.Endings.{confirmed_is, confirmed_means, there}
use Rattle.host_activations.proofs.Setting.{set_there, set_to}
use Rattle.host_activations.proofs.host.Host.confirm.Goals as goal

pub invariant_of-self : goal.invariant_of-self
invariant_of-self c =
    let set : c.set.new.self ≡ set_to c.in-Some.found.0 c.self.inside.held c.in-Some.found.1 Firm None =
    set_there c.in-Some.found.0 c.self.inside.held c.set.new.self Firm None c.in-Some.found.1
    (there c.self.inside c.self.invariant c.args.self.now c.self.view_is c.args.number c.in-Some.found.0 c.in-Some.found.1
    (sym c.in-Some.ensures)).0 c.set.ensures in
    confirmed_is c.self.inside c.self.invariant c.args.self.now c.self.view_is c.args.number c.in-Some.found.0 c.in-Some.found.1
    (sym c.in-Some.ensures)
    c.set.new.self.entries c.remove.new.self.entries (ap (λ (v : ActivationsValue). v.entries) set) c.remove.ensures.entries
    c.whole.ensures.grains

pub returns : goal.returns
returns c =
    let set : c.set.new.self ≡ set_to c.in-Some.found.0 c.self.inside.held c.in-Some.found.1 Firm None =
    set_there c.in-Some.found.0 c.self.inside.held c.set.new.self Firm None c.in-Some.found.1
    (there c.self.inside c.self.invariant c.args.self.now c.self.view_is c.args.number c.in-Some.found.0 c.in-Some.found.1
    (sym c.in-Some.ensures)).0 c.set.ensures in
    let now : Host = meant c.self.inside.silo c.self.inside.next_number c.set.new.self.next_count c.set.new.self.entries c.remove.new.self.entries in
    subst (λ o. MatchOption o (now ≡ c.args.self.now) (λ e. now ≡ confirmed c.args.self.now e.0 e.1)) c.in-Some.ensures
    ((λ i. meant c.self.inside.silo c.self.inside.next_number (ap (λ (v : ActivationsValue). v.next_count) set i) c.set.new.self.entries
    c.remove.new.self.entries)
    ∙ confirmed_means c.self.inside c.self.invariant c.args.self.now c.self.view_is c.args.number c.in-Some.found.0 c.in-Some.found.1
    (sym c.in-Some.ensures)
    c.set.new.self.entries c.remove.new.self.entries (ap (λ (v : ActivationsValue). v.entries) set) c.remove.ensures.entries)
