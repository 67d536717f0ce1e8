-- An activation and the fields that it is kept in.
use Rattle.std.specs.Prelude.{◌≡◌, refl, ℕ}
use Rattle.std.proofs.Common.{ap, ◌∙◌}
use Rattle.directory_rules.specs.declared.Held.{Held}
use Rattle.host_activations.specs.declared.kept.Stage.{Stage}
use Rattle.host_activations.specs.declared.kept.Stage.TheVariants as stage
use Rattle.host_activations.specs.declared.kept.State.{State}
use Rattle.host_activations.specs.declared.kept.State.TheVariants.{Alone, After}
use Rattle.host_activations.specs.declared.kept.Kept.TheInside.{Inside}
use Rattle.host_activations.specs.Kept.{number_of, phase_of, previous_in, stage_in, stage_of, state_of}

-- the activation that is kept
abbrev pub held_in : Inside → Held
held_in k = record { count = k.count; phase = phase_of (stage_in k.state) k.number; previous = previous_in k.state }

-- how it is kept
abbrev pub kept_as : Held → Inside
kept_as h = record { count = h.count; number = number_of h.phase; state = state_of (stage_of h.phase) h.previous }

-- the number is 0 where the phase has none
abbrev pub IsKept : Inside → Type 0
IsKept k = number_of (phase_of (stage_in k.state) k.number) ≡ k.number

-- a stage and a state are those that their parts make
stage_again : (stage : Stage) (number : ℕ) → stage_of (phase_of stage number) ≡ stage
stage_again stage.Asking number = refl
stage_again stage.Firm number = refl
stage_again stage.Closing number = refl

state_again : (state : State) → state_of (stage_in state) (previous_in state) ≡ state
state_again (Alone stage) = refl
state_again (After stage previous) = refl

-- the fields are those that the activation is kept in
pub kept_again : (k : Inside) → IsKept k → kept_as (held_in k) ≡ k
kept_again k is i = record {
  count = k.count;
  number = is i;
  state = (ap (λ stage. state_of stage (previous_in k.state)) (stage_again (stage_in k.state) k.number) ∙ state_again k.state) i;
}
