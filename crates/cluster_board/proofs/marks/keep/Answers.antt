use Rattle.std.proofs.Common.{ap}
use Rattle.std.specs.Map.{lookup}
use Rattle.std.specs.BTreeMap.{is_at}
use Rattle.silo_address.specs.Silo.{silo_cmp}
use Rattle.cluster_board.specs.Marked.{marked_at}
use Rattle.cluster_board.proofs.MarksKept.{by_result, kept_of, put_of}
use Rattle.cluster_board.proofs.marks.keep.Goals as goal

pub returns : goal.returns
returns g c = λ q.
    let before = marked_at c.args.marked.now.entries q in
    let after = marked_at c.insert.new.self.entries q in
    by_result c.insert.result c.insert.ensures.updates c.insert.ensures.err
    (λ up. put_of c.args.silo c.args.mark q before after (up.0 q))
    (λ still. kept_of c.args.silo c.args.mark q before after (ap (lookup (is_at (silo_cmp q))) still))
