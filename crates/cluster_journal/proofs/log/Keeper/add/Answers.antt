use Rattle.std.proofs.Common.{◌==◌, arith}
use prog.Atomic.{either}
use Rattle.cluster_journal.proofs.LogSteps.{adds}
use Rattle.cluster_journal.proofs.log.Keeper.add.Goals as goal

pub compare_exchange_with-requires : goal.compare_exchange_with-requires
compare_exchange_with-requires g c =
    let is = c.self.invariant in
    let one_word = is.2 in
    (is.0, omega arith, adds _ _ _ _ (λ n. either (n == 0) 0 n) _ is.3)
