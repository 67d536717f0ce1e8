use Rattle.std.proofs.lemmas.Slice.Eq.{slice_eq-Decides}
use Rattle.range_recovery.proofs.Reported.{Decides-awaited}
use Rattle.range_recovery.proofs.silos.same_silos.Goals as goal

pub returns : goal.returns
returns c = slice_eq-Decides Decides-awaited c.args.one.now c.args.other.now c.eq.result c.eq.ensures
