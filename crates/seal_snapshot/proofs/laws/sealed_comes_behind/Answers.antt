use Rattle.seal_snapshot.proofs.Seals.{sealed_behind}
use Rattle.seal_snapshot.proofs.laws.sealed_comes_behind.Goals as goal

pub returns : goal.returns
returns c = sealed_behind
