use Rattle.std.proofs.Common.{◌≡◌, ◌+◌, ◌≤◌, ◌++◌, fold, take, length, vec_len, vec_capacity}
use Rattle.std.specs.BTreeSet.{insert_key}
use Rattle.hash_ring.specs.Point.{point_cmp}
use Rattle.hash_ring.proofs.Order.{point_cmp_total}
use Rattle.hash_ring.proofs.Merges.{Precedes}
use Rattle.hash_ring.proofs.merge.merge.Given as goal

abbrev pub invariant-loop-point : goal.invariant-loop-point
invariant-loop-point l = record {
  made : l.merged.items ++ l.rest ≡ fold (insert_key point_cmp) l.points (take l.point-index l.others);
  lower : Precedes point_cmp_total l.merged.items l.point-index l.others;
  room : vec_len l.merged + length l.rest + length l.others ≤ vec_capacity l.merged + l.point-index;
}
