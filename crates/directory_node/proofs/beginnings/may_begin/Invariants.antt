use Rattle.std.proofs.Common.{take}
use Rattle.std.specs.Prelude.{IsOk}
use Rattle.directory_rules.specs.ListedModel.{all_listed_of}
use Rattle.directory_rules.specs.Membership.{begun}
use Rattle.directory_node.proofs.beginnings.may_begin.Given as goal

-- none of the silos passed is refused
abbrev pub invariant-loop-index : goal.invariant-loop-index
invariant-loop-index l = IsOk (begun l.settings l.version (all_listed_of (take l.index l.rows)))
