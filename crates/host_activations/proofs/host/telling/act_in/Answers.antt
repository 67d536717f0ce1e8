use Rattle.std.proofs.Common.{rules}
use Rattle.host_activations.proofs.host.telling.act_in.Goals as goal

pub returns-in-Closing : goal.returns-in-Closing
returns-in-Closing c = search rules
