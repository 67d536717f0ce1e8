use Rattle.std.proofs.Common.{◌≡◌, drop}
use Rattle.std.specs.List.{slice_get}
use Rattle.silo_placement.specs.Rows.{active_of}
use Rattle.silo_placement.proofs.placement.active_at.Given as goal

abbrev pub invariant-loop-row : goal.invariant-loop-row
invariant-loop-row l = slice_get (active_of (drop l.row-index l.rows)) l.before ≡ slice_get (active_of l.rows) l.index
