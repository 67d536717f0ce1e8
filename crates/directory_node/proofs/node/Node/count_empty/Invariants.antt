use Rattle.std.proofs.Common.{◌≡◌, fold, take}
use Rattle.directory_rules.specs.Transfer.{told_nothing}
use Rattle.node_plans.specs.Plans.{empty_from}
use Rattle.directory_node.proofs.node.Node.count_empty.Given as goal

-- so many ranges were told of
abbrev pub invariant-loop-range : goal.invariant-loop-range
invariant-loop-range l = l.self ≡ fold (told_nothing (empty_from l.from l.version)) l.fn.self (take l.range-index l.ranges)
