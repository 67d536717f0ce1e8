use Rattle.std.proofs.Common.{rules, leb}
use Rattle.std.proofs.lemmas.Bool.{leb-true, leb-false}
use Rattle.std.proofs.lemmas.List.Sorted.{IsPartitionPoint-from_clause, IsPartitionedBy-leb}
use Rattle.grain_table.proofs.hashed_map.search.index_under.Goals as goal

pub returns-clause-split : goal.returns-clause-split
returns-clause-split c =
    let at = IsPartitionPoint-from_clause (λ y. leb y c.args.hash) c.args.cuts.now c.partition_point.result c.partition_point.ensures.partitioned
    (IsPartitionedBy-leb (λ cut. cut) c.args.cuts.now c.args.hash c.requires) (search rules) in
    (λ k d low high. leb-true _ _ (at.0 k d low high), λ k d low high. leb-false _ _ (at.1 k d low high))
