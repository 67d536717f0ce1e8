use Rattle.std.proofs.Common.{◌≡◌, ◌++◌}
use Rattle.directory_rules.specs.Sent.{recovering_ranges}
use Rattle.node_plans.proofs.new_wants.recovering_ranges.Given as goal

-- those found, and those of the pieces still to come, are all
abbrev pub invariant-loop-piece : goal.invariant-loop-piece
invariant-loop-piece l = l.ranges.items ++ recovering_ranges l.piece-iterator ≡ recovering_ranges l.pieces.entries
