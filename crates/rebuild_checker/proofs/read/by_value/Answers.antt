use Rattle.serde_json.specs.View.{view}
use Rattle.rebuild_checker.proofs.ReadDumps.{nothing_read}
use Rattle.rebuild_checker.proofs.read.by_value.Goals as goal

pub returns-in-Ok-clause-empty : goal.returns-in-Ok-clause-empty
returns-in-Ok-clause-empty c = λ empty out. nothing_read c.args.text.now (view c.in-Ok.value) empty c.in-Ok.ensures.ok
