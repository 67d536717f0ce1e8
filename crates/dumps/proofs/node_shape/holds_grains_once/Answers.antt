use Rattle.std.proofs.Common.{◌∙◌, ap}
use Rattle.silo_address.specs.Grain.{grain_eq}
use Rattle.dump_rules.specs.DumpShape.{are_distinct_by}
use Rattle.dumps.specs.Mixed.{grains_lent}
use Rattle.dumps.proofs.node_shape.holds_grains_once.Goals as goal

pub returns : goal.returns
returns c = c.in_ok-once.ensures ∙ ap (are_distinct_by grain_eq) (ap grains_lent c.deref.ensures.value ∙ c.in_ok-grains.ensures)
