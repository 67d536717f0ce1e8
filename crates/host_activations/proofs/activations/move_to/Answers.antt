use Rattle.host_activations.proofs.Indexed.{there_is_put}
use Rattle.host_activations.proofs.activations.move_to.Goals as goal

pub unwrap-requires : goal.unwrap-requires
unwrap-requires c = there_is_put _ c.insert-put.result c.insert-put.ensures.absent c.requires
