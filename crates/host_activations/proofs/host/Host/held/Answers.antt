use Rattle.std.proofs.Common.{rules}
use Rattle.host_activations.proofs.host.Host.held.Goals as goal

pub returns : goal.returns
returns c = search rules
