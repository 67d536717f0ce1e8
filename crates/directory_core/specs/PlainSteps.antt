-- Events of a run, seen from outside: steps of the plain machine.
use Rattle.std.specs.Prelude.{List, [], ◌∷◌, IfOk}
use Rattle.directory_rules.specs.Event.{Event}
use Rattle.directory_rules.specs.State.{World}
use Rattle.directory_rules.specs.Happens.{happens}
use Rattle.directory_rules.specs.PlainMachine.{IsPlainStep, plain_of, plain_step_of}
use Rattle.directory_rules.specs.Run.{world_after}

-- if the event is accepted, it is the step of the plain machine that it tells
abbrev pub MovesBy : World → Event → Type 0
MovesBy world event = IfOk (happens world event) (λ accepted. IsPlainStep (plain_of world) (plain_step_of accepted.outcome.happening) (plain_of accepted.world))

-- so is each of the events, one after the other
abbrev pub AllMovePlainly : World → List Event → Type 0
AllMovePlainly world [] = Unit {0}
AllMovePlainly world (event ∷ events) = MovesBy world event × AllMovePlainly (world_after (happens world event) world) events
