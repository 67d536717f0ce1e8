use Rattle.std.proofs.Common.{◌≡◌, length}
use Rattle.directory_rules.specs.Table.{rise_by_grain}
use Rattle.node_plans.proofs.order.rise_by_grain.Given as goal

-- what is left rises exactly where the whole does
abbrev pub invariant-loop-entry : goal.invariant-loop-entry
invariant-loop-entry l = rise_by_grain l.rest ≡ rise_by_grain l.entries

abbrev pub decreases-loop-entry : goal.decreases-loop-entry
decreases-loop-entry l = length l.rest
