use Rattle.std.proofs.Common.{◌≡◌, drop}
use Rattle.directory_rules.specs.Placement.{by_least}
use Rattle.silo_placement.specs.Rows.{active_of, lesser_of}
use Rattle.silo_placement.proofs.placement.by_least.Given as goal

abbrev pub invariant-loop-row : goal.invariant-loop-row
invariant-loop-row l =
    lesser_of l.counts.entries l.least (by_least l.counts.entries (active_of (drop l.row-index l.rows))) ≡ by_least l.counts.entries
    (active_of l.rows)
