use Rattle.std.proofs.Common.{◌≡◌, take}
use Rattle.std.specs.Prelude.{Ok}
use Rattle.directory_rules.specs.ListedModel.{all_listed_of}
use Rattle.directory_rules.specs.Membership.{begun}
use Rattle.directory_node.proofs.membership.Membership.begun.Given as goal

-- the silos passed are listed
abbrev pub invariant-loop-one : goal.invariant-loop-one
invariant-loop-one l = begun l.settings l.version (all_listed_of (take l.one-index l.rows)) ≡ Ok l.begun
