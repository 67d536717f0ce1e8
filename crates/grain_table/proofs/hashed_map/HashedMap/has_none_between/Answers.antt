use Rattle.grain_table.specs.Stretch.{is_between}
use Rattle.grain_table.proofs.Outside.{told_by_first}
use Rattle.grain_table.proofs.hashed_map.HashedMap.has_none_between.Goals as goal

pub returns : goal.returns
returns c =
    told_by_first (λ e. is_between c.args.first c.args.end e.0.hash) c.args.self.now c.between-entries.result c.next.new.self c.next.result
    c.is_none.result c.is_none.ensures c.between-entries.ensures c.next.ensures.steps
