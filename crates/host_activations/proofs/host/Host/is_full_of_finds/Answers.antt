use Rattle.std.proofs.Common.{rules}
use Rattle.host_activations.proofs.host.Host.is_full_of_finds.Goals as goal

pub returns : goal.returns
returns c = search rules
