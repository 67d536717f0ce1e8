-- The parts of an activation as it is kept.
use Rattle.std.specs.Prelude.{ℕ, Option, Some, None}
use Rattle.silo_address.specs.declared.activation.ActivationId.{ActivationId}
use Rattle.directory_rules.specs.declared.Phase.{Phase}
use Rattle.directory_rules.specs.declared.Phase.TheVariants as phase
use Rattle.host_activations.specs.declared.kept.Stage.{Stage}
use Rattle.host_activations.specs.declared.kept.Stage.TheVariants as stage
use Rattle.host_activations.specs.declared.kept.State.{State}
use Rattle.host_activations.specs.declared.kept.State.TheVariants.{Alone, After}

-- the phase without its number
abbrev pub stage_of : Phase → Stage
stage_of (phase.Asking number) = stage.Asking
stage_of phase.Firm = stage.Firm
stage_of (phase.Closing number) = stage.Closing

-- its number, and 0 where it has none
abbrev pub number_of : Phase → ℕ
number_of (phase.Asking number) = number
number_of phase.Firm = 0
number_of (phase.Closing number) = number

-- the phase of that stage and number
abbrev pub phase_of : Stage → ℕ → Phase
phase_of stage.Asking number = phase.Asking number
phase_of stage.Firm number = phase.Firm
phase_of stage.Closing number = phase.Closing number

-- the stage beside the previous activation, if there is one
abbrev pub state_of : Stage → Option ActivationId → State
state_of stage None = Alone stage
state_of stage (Some previous) = After stage previous

-- the stage that is kept
abbrev pub stage_in : State → Stage
stage_in (Alone stage) = stage
stage_in (After stage previous) = stage

-- the previous activation that is kept, if there is one
abbrev pub previous_in : State → Option ActivationId
previous_in (Alone stage) = None
previous_in (After stage previous) = Some previous
