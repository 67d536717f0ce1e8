use Rattle.std.proofs.Common.{◌≡◌, rules}
use Rattle.std.proofs.lemmas.Fn.{always_returns_same}
use Rattle.grain_table.specs.Buckets.{is_before}
use Rattle.grain_table.proofs.InOrder.{parted_before}
use Rattle.grain_table.proofs.hashed_map.search.index_of.Goals as goal

pub returns-clause-split : goal.returns-clause-split
returns-clause-split c =
    c.partition_point.ensures.partitioned (is_before c.args.key.now)
    (always_returns_same _ (λ a r. r ≡ is_before c.args.key.now a.0.now) _ (λ a r f called. search rules))
    (parted_before c.args.key.now c.args.slots.now c.requires)
