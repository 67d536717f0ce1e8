use Rattle.std.proofs.Common.{rules}
use Rattle.rebuild_checker.proofs.first_fault.check_activations.Goals as goal

pub returns-in-Some : goal.returns-in-Some
returns-in-Some c = search rules
