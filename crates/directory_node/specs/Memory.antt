-- Where a plan may run out of memory.
use Rattle.std.specs.Prelude.{ℕ, IsOk, Result}
use Rattle.directory_rules.specs.declared.own_step.OwnStep.TheVariants.{Nudge, NudgeGrain, NudgeRanges}
use Rattle.directory_rules.specs.Input.{Input, Sees, Does, Receives}
use Rattle.directory_rules.specs.State.{Node}
use Rattle.directory_rules.specs.Step.{Stepped}
use Rattle.node_plans.specs.Plans.{Sends, answer_count}

-- where a plan may run out of memory: at an input that isn't refused, and but for a sight and a nudge only where as many letters are
-- sent as are known before they are made
abbrev pub MayLackMemory : Node → Input → Result Stepped ℕ → Type 0
MayLackMemory node (Sees before view places) outcome = IsOk outcome
MayLackMemory node (Does Nudge) outcome = IsOk outcome
MayLackMemory node (Does (NudgeGrain grain)) outcome = IsOk outcome
MayLackMemory node (Does NudgeRanges) outcome = IsOk outcome
MayLackMemory node (Receives letter) outcome = Sends (answer_count node letter letter.body) outcome
MayLackMemory node (Does step) outcome = Sends 1 outcome
