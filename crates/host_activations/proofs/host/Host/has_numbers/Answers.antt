use Rattle.std.proofs.Common.{rules}
use Rattle.host_activations.proofs.host.Host.has_numbers.Goals as goal

pub returns-then-self-end : goal.returns-then-self-end
returns-then-self-end c = search rules
