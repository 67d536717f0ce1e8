use Rattle.host_activations.proofs.Replies.{activation_told, find_told, none_told}
use Rattle.host_activations.proofs.host.replies.activation_under.Goals as goal

pub returns-in_err-asked : goal.returns-in_err-asked
returns-in_err-asked c = none_told _ _ c.from_residual.ensures c.in_err-asked.ensures.value

pub returns-in-Activation : goal.returns-in-Activation
returns-in-Activation c = activation_told _ _ _ c.in-Activation.is c.in_ok-asked.ensures.value

pub returns-in-Find : goal.returns-in-Find
returns-in-Find c = find_told _ _ _ c.in-Find.is c.in_ok-asked.ensures.value
