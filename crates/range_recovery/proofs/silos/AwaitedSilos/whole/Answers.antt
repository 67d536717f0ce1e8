use Rattle.std.proofs.Common.{subst}
use Rattle.range_recovery.specs.Silos.{AreAwaited, AwaitedValue}
use Rattle.range_recovery.proofs.Told.{are_awaited}
use Rattle.range_recovery.proofs.silos.AwaitedSilos.whole.Goals as goal

pub returns : goal.returns
returns c = subst (λ (v : AwaitedValue). AreAwaited v) c.self.view_is (are_awaited c.self.inside.silos.items c.self.invariant.by_address)
