use Rattle.std.proofs.Common.{◌≡◌, ℕ, ◌+◌, ◌<◌, true, get_or}
use Rattle.directory_rules.specs.State.{Snapshot}
use Rattle.seal_snapshot.specs.Shelf.{comes_before}
use Rattle.seal_snapshot.proofs.shelf.are_in_order.Given as goal

-- each snapshot up to here comes before the next one
abbrev pub invariant-loop-index : goal.invariant-loop-index
invariant-loop-index l =
    (k : ℕ) (d : Snapshot) → k + 1 < l.index → comes_before (get_or l.snapshots k d) (get_or l.snapshots (k + 1) d) ≡ true
