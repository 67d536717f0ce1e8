use Rattle.std.specs.BTreeMap.{is_at}
use Rattle.silo_address.specs.Silo.{silo_cmp}
use Rattle.cluster_board.specs.Marked.{marked_at}
use Rattle.cluster_board.proofs.MarksKept.{left_of}
use Rattle.cluster_board.proofs.marks.forget.Goals as goal

pub returns-clause-left : goal.returns-clause-left
returns-clause-left g c = λ q.
    left_of (is_at (silo_cmp c.args.silo.now) q) (marked_at c.args.marked.now.entries q) (marked_at c.remove.new.self.entries q)
    (c.remove.ensures.updates.0 q)
