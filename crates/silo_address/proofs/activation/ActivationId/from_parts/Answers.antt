use Rattle.std.proofs.Common.{rules}
use Rattle.silo_address.proofs.activation.ActivationId.from_parts.Goals as goal

pub returns-in-Err-number_up_to : goal.returns-in-Err-number_up_to
returns-in-Err-number_up_to c = search rules
