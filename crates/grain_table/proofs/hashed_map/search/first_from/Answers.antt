use Rattle.std.proofs.Common.{rules, nat_lt}
use Rattle.std.proofs.lemmas.Bool.{ltb-true, ltb-false}
use Rattle.std.proofs.lemmas.List.Sorted.{IsPartitionPoint-from_clause}
use Rattle.silo_address.specs.declared.ActivationId.{ActivationId}
use Rattle.grain_table.specs.declared.hashed_grain.HashedGrain.{HashedGrain}
use Rattle.grain_table.proofs.InOrder.{parted_lower}
use Rattle.grain_table.proofs.hashed_map.search.first_from.Goals as goal

pub returns-clause-split : goal.returns-clause-split
returns-clause-split c =
    let at = IsPartitionPoint-from_clause (λ (e : HashedGrain × ActivationId). nat_lt e.0.hash c.args.hash) c.args.slots.now c.partition_point.result c.partition_point.ensures.partitioned
    (parted_lower c.args.hash c.args.slots.now c.requires) (search rules) in
    (λ k d low high. ltb-true _ _ (at.0 k d low high), λ k d low high. ltb-false _ _ (at.1 k d low high))
