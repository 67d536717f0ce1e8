use Rattle.std.proofs.Common.{◌≡◌, ◌+◌, ◌≤◌, drop, length}
use Rattle.silo_placement.specs.Rows.{active_of}
use Rattle.silo_placement.proofs.placement.active_count.Given as goal

abbrev pub invariant-loop-row : goal.invariant-loop-row
invariant-loop-row l = record {
  counted : l.count + length (active_of (drop l.row-index l.rows)) ≡ length (active_of l.rows);
  within : l.count ≤ l.row-index;
}
