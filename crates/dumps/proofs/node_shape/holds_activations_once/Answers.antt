use Rattle.std.proofs.Common.{◌∙◌, ap}
use Rattle.std.specs.BTreeMap.{is_at}
use Rattle.silo_address.specs.Activation.{activation_cmp, activation_eq}
use Rattle.dump_rules.specs.DumpShape.{are_distinct_by}
use Rattle.dumps.proofs.Ties.{distinct_activations}
use Rattle.dumps.proofs.node_shape.holds_activations_once.Goals as goal

pub returns : goal.returns
returns c =
    c.in_ok-once.ensures
    ∙ (ap (are_distinct_by (λ one. is_at (activation_cmp one))) c.deref.ensures.value
    ∙ (distinct_activations c.in_ok-activations.activations.items ∙ ap (are_distinct_by activation_eq) c.in_ok-activations.ensures))
