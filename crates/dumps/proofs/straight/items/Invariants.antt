use Rattle.std.proofs.Common.{length}
use Rattle.dumps.proofs.Along.{Continues}
use Rattle.dumps.proofs.straight.items.Given as goal

abbrev pub invariant-items : goal.invariant-items
invariant-items g l = Continues g.T.ReadItem.reads g.T.ReadItem.deep l.list.items l.initial.reader l.reader

abbrev pub decreases-items : goal.decreases-items
decreases-items g l = length l.reader
