-- The numbers by which a step's refusals are told.
use Rattle.std.specs.Prelude.{ℕ, Option, Some, None}
use Rattle.node_plans.specs.declared.refusal.StepRefusal.{StepRefusal}
use Rattle.node_plans.specs.declared.refusal.StepRefusal.TheVariants.{AlreadyHere, NotHere, NotFirm, NotAsking, NotActiveSilo, NumbersSpent, HostFull, NotATarget, NotNewer, OutOfMemory}

-- a refusal's number; out of memory has none
abbrev pub step_refusal_number : StepRefusal → Option ℕ
step_refusal_number AlreadyHere = Some 801
step_refusal_number NotHere = Some 802
step_refusal_number NotFirm = Some 803
step_refusal_number NotActiveSilo = Some 804
step_refusal_number NumbersSpent = Some 805
step_refusal_number HostFull = Some 806
step_refusal_number NotATarget = Some 807
step_refusal_number NotAsking = Some 808
step_refusal_number NotNewer = Some 903
step_refusal_number OutOfMemory = None
