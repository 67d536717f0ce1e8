-- A plan that a silo made beside the world, with a letter to it.
use Rattle.std.specs.Prelude.{◌≡◌, ℕ, Option, Some, None}
use Rattle.directory_rules.specs.State.{Letter, Node, World}
use Rattle.directory_rules.specs.Receive.{received}
use Rattle.directory_rules.specs.Mail.{letter_of}
use Rattle.directory_rules.specs.Happens.{node_of}
use Rattle.directory_node.specs.Plans.{Fits, step_by}
use Rattle.directory_node.specs.declared.Plan.{Plan}
use Rattle.directory_core.specs.declared.delivery.Undelivered.{Undelivered}
use Rattle.directory_core.specs.Numbers.{event_refusal_number}

-- the letter of the number is in the mail, its receiver isn't Dead, and this is the plan of that silo's node with it
pub record IsPlanWith (world : World) (number : ℕ) (plan : Plan) : Type 0 where
  pub letter : Letter
  pub node : Node
  pub mailed : letter_of world number ≡ Some letter
  pub live : node_of world letter.to ≡ Some node
  pub fits : Fits plan.change node
  pub its : step_by node plan ≡ received node letter

-- the number of the refusal by which a plan couldn't be carried out
abbrev pub undelivered_number : Undelivered → Option ℕ
undelivered_number undelivered = event_refusal_number undelivered.refusal

-- what comes back of a plan that is refused by a number: all of it; where memory runs out, nothing
abbrev pub plan_back : Option ℕ → Plan → Option Plan
plan_back (Some number) plan = Some plan
plan_back None plan = None
