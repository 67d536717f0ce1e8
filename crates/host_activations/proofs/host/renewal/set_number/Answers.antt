use Rattle.std.proofs.Common.{refl, sym, ap, ◌∙◌}
use Rattle.std.specs.Map.{set_value}
use Rattle.std.specs.BTreeMap.{is_at}
use Rattle.silo_address.specs.Grain.{grain_cmp}
use Rattle.directory_rules.specs.declared.Phase.{Phase}
use Rattle.host_activations.specs.Activations.{ActivationsValue}
use Rattle.host_activations.proofs.NewNumbers.{set_none, set_some}
use Rattle.host_activations.proofs.Setting.{set_there}
use Rattle.host_activations.proofs.host.renewal.set_number.Goals as goal

pub returns-in-Some-clause-set : goal.returns-in-Some-clause-set
returns-in-Some-clause-set c =
    set_some c.args.number c.args.grain.now c.args.map.now.entries c.set.new.self.entries c.in-Some.held (sym c.in-Some.ensures)
    (ap (λ (v : ActivationsValue). v.entries)
    (set_there c.args.grain.now c.args.map.now c.set.new.self c.phase_under.result c.in-Some.held.previous c.in-Some.held
    (sym c.in-Some.ensures) c.set.ensures)
    ∙ ap (λ (p : Phase). set_value (is_at (grain_cmp c.args.grain.now)) c.args.map.now.entries (record c.in-Some.held { phase = p }))
    c.phase_under.ensures)

pub returns-in-Some-clause-count : goal.returns-in-Some-clause-count
returns-in-Some-clause-count c =
    ap (λ (v : ActivationsValue). v.next_count)
    (set_there c.args.grain.now c.args.map.now c.set.new.self c.phase_under.result c.in-Some.held.previous c.in-Some.held
    (sym c.in-Some.ensures) c.set.ensures)

pub returns-in_default-clause-set : goal.returns-in_default-clause-set
returns-in_default-clause-set c = set_none c.args.number c.args.grain.now c.args.map.now.entries _ (sym c.in_default.ensures) refl
