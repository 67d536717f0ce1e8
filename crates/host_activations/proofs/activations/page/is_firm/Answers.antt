use Rattle.std.proofs.Common.{rules}
use Rattle.host_activations.proofs.activations.page.is_firm.Goals as goal

pub returns-in-Asking : goal.returns-in-Asking
returns-in-Asking c = search rules

pub returns-in-Asking-2 : goal.returns-in-Asking-2
returns-in-Asking-2 c = search rules
