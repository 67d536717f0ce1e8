use Rattle.std.proofs.Common.{◌≡◌, ◌↔◌}
use Rattle.node_plans.proofs.gathered.same_gatherings.Given as goal

-- the two are equal exactly where what is left of them is
abbrev pub invariant-loop-start : goal.invariant-loop-start
invariant-loop-start l = (l.one.entries ≡ l.other.entries) ↔ (l.start-iterator ≡ l.others)
