use Rattle.std.proofs.Common.{◌≡◌, ◌↔◌, length}
use Rattle.std.specs.Slice.Iter.{iter_rest}
use Rattle.seal_snapshot.proofs.shelf.same_snapshots.Given as goal

-- the lists are equal exactly where what is left of each is
abbrev pub invariant-rest : goal.invariant-rest
invariant-rest l = (l.one ≡ l.other) ↔ (iter_rest l.rest ≡ iter_rest l.its)

abbrev pub decreases-rest : goal.decreases-rest
decreases-rest l = length (iter_rest l.rest)
