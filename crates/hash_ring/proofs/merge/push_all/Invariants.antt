use Rattle.std.proofs.Common.{◌≡◌, ◌+◌, ◌≤◌, ◌++◌, take, vec_len, vec_capacity}
use Rattle.hash_ring.proofs.merge.push_all.Given as goal

abbrev pub invariant-loop-point : goal.invariant-loop-point
invariant-loop-point l = record {
  items : l.merged.items ≡ l.fn.merged.items ++ take l.point-index l.points;
  len : vec_len l.merged ≡ vec_len l.fn.merged + l.point-index;
  room : vec_capacity l.fn.merged ≤ vec_capacity l.merged;
}
