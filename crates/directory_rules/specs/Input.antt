-- A silo's step is a function of its node and of one input.
use Rattle.std.specs.Prelude.{ℕ, ◌-◌, Result, Ok}
use Rattle.membership_view.specs.View.{ViewValue}
use Rattle.membership_view.specs.Views.{view_at}
use Rattle.hash_ring.specs.Places.{PlacesValue}
use Rattle.directory_rules.specs.declared.own_step.OwnStep.{OwnStep}
use Rattle.directory_rules.specs.declared.own_step.OwnStep.TheVariants.{Wake, Close, Cancel, Find, Forget, Nudge, NudgeGrain, NudgeRanges, Offer}
use Rattle.directory_rules.specs.Membership.{Membership}
use Rattle.directory_rules.specs.State.{Letter, Node}
use Rattle.directory_rules.specs.Step.{Stepped, see, wake, close, cancel, find_grain, forget, nudge, nudge_grain, nudge_ranges, offer}
use Rattle.directory_rules.specs.Receive.{received}

-- an input of a silo's step
pub data Input : Type 0 where
  -- a view to be seen, with the one before it and the places of all silos
  Sees : (before view : ViewValue) → PlacesValue → Input
  -- what its application asks
  Does : OwnStep → Input
  Receives : Letter → Input

-- what the node does at what its application asks, or the number by which that is refused
abbrev pub own_step : Node → OwnStep → Result Stepped ℕ
own_step node (Wake grain) = wake node grain
own_step node (Close grain) = close node grain
own_step node (Cancel grain) = cancel node grain
own_step node (Find grain) = find_grain node grain
own_step node (Forget grain) = Ok (forget node grain)
own_step node Nudge = nudge node
own_step node (NudgeGrain grain) = nudge_grain node grain
own_step node NudgeRanges = Ok (nudge_ranges node)
own_step node (Offer grain to) = offer node grain to

-- what the node does with the input, or the number by which it is refused
abbrev pub step : Node → Input → Result Stepped ℕ
step node (Sees before view places) = see node before view places
step node (Does own) = own_step node own
step node (Receives letter) = Ok (received node letter)

-- the input of a sight of that version, by what changes made
abbrev pub sight_of : Membership → (version : ℕ) → Input
sight_of m version = Sees (view_at m.views (version - 1)) (view_at m.views version) m.places
