use Rattle.std.proofs.Common.{arith}
use Rattle.cluster_journal.proofs.LogSteps.{splits}
use Rattle.cluster_journal.proofs.log.Keeper.front.Goals as goal

pub split_seat-requires : goal.split_seat-requires
split_seat-requires g c =
    let is = c.self.invariant in
    let one_word = is.2 in
    (is.0, omega arith, splits _ _)
