-- Work that is prepared.
use Rattle.std.specs.Prelude.{◌≡◌}
use Rattle.directory_rules.specs.Receive.{received}
use Rattle.directory_node.specs.Plans.{Fits, step_by}
use Rattle.directory_node.specs.declared.Plan.{Plan}
use Rattle.cluster_board.specs.Work.{Work}

-- the plan fits the node of the work, and is that node's step with the letter
pub record IsPlanOf (work : Work) (plan : Plan) : Type 0 where
  pub fits : Fits plan.change work.node
  pub its : step_by work.node plan ≡ received work.node work.letter
