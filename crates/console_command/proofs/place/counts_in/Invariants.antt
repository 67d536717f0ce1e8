use Rattle.std.proofs.Common.{◌≡◌, drop, []}
use Rattle.directory_rules.specs.Placement.{count_of}
use Rattle.script_rules.specs.Show.{held_counts}
use Rattle.console_command.proofs.Counted.{counted}
use Rattle.console_command.proofs.place.counts_in.Given as goal

abbrev pub invariant-loop-row : goal.invariant-loop-row
invariant-loop-row l =
    counted (count_of (held_counts l.world)) (drop l.row-index l.row-items) l.counts.entries ≡ counted (count_of (held_counts l.world))
    l.view.rows []
