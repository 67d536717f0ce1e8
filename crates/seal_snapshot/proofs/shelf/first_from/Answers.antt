use Rattle.std.proofs.Common.{◌≡◌, rules}
use Rattle.std.proofs.lemmas.Fn.{always_returns_same}
use Rattle.seal_snapshot.specs.Shelf.{is_before}
use Rattle.seal_snapshot.proofs.Order.{partitioned}
use Rattle.seal_snapshot.proofs.shelf.first_from.Goals as goal

pub returns : goal.returns
returns c =
    c.partition_point.ensures.partitioned (is_before c.args.version c.args.start)
    (always_returns_same _ (λ a r. r ≡ is_before c.args.version c.args.start a.0.now) _ (λ a r f called. search rules))
    (partitioned c.args.version c.args.start c.args.snapshots.now c.requires)
