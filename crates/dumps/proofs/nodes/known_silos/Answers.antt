use Rattle.std.proofs.Common.{◌∙◌, ap}
use Rattle.std.specs.BTreeMap.{is_at}
use Rattle.std.specs.List.{list_any}
use Rattle.silo_address.specs.Silo.{silo_cmp}
use Rattle.dumps.proofs.nodes.known_silos.Goals as goal

pub returns : goal.returns
returns c = λ silo. c.in_ok-silos.ensures silo ∙ ap (list_any (is_at (silo_cmp silo))) (c.deref.ensures.value ∙ c.in_ok-rows.ensures)
