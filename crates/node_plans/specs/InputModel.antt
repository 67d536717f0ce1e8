-- How an input of the code is one of the rule.
use Rattle.directory_rules.specs.Input as rule
use Rattle.node_plans.specs.declared.input.Input.{Input}
use Rattle.node_plans.specs.declared.input.Input.TheVariants.{Sees, Does, Receives}

-- the rule's input
abbrev pub input_of : Input → rule.Input
input_of (Sees before view places) = rule.Sees before.now view.now places.now
input_of (Does step) = rule.Does step.now
input_of (Receives letter) = rule.Receives letter.now
