-- A silo's own steps kept short: what was asked and what was done, apart from the grain.
use Rattle.std.specs.Prelude.{ℕ, ◌==◌, if◌then◌else◌, Option, None, Some}
use Rattle.silo_address.specs.Grain.{Grain}
use Rattle.silo_address.specs.declared.entry.Entry.{Entry}
use Rattle.directory_rules.specs.declared.effect.Effect.{Effect}
use Rattle.directory_rules.specs.declared.effect.Effect.TheVariants as effects
use Rattle.directory_rules.specs.declared.outcome.Span.{Span}
use Rattle.directory_rules.specs.declared.own_step.OwnStep.{OwnStep}
use Rattle.directory_rules.specs.declared.own_step.OwnStep.TheVariants as steps
use Rattle.cluster_journal.specs.declared.stepped.Asked.{Asked}
use Rattle.cluster_journal.specs.declared.stepped.Asked.TheVariants as asked
use Rattle.cluster_journal.specs.declared.stepped.Did.{Did}
use Rattle.cluster_journal.specs.declared.stepped.Did.TheVariants as did
use Rattle.cluster_journal.specs.declared.stepped.ShortActivation.{ShortActivation}

-- the step that asked so about the grain
abbrev pub step_by : Asked → Grain → OwnStep
step_by asked.Wake grain = steps.Wake grain
step_by asked.Close grain = steps.Close grain
step_by asked.Cancel grain = steps.Cancel grain
step_by asked.Find grain = steps.Find grain
step_by asked.Forget grain = steps.Forget grain
step_by asked.NudgeGrain grain = steps.NudgeGrain grain

-- the grain's entry with the activation
abbrev pub entry_by : ShortActivation → Grain → Entry
entry_by activation grain = record { grain = grain; activation = record { silo = activation.silo; count = activation.count } }

-- the effect that did so about the grain
abbrev pub effect_by : Did → Grain → Effect
effect_by (did.Started activation) grain = effects.Started (entry_by activation grain)
effect_by (did.Closing activation) grain = effects.Closing (entry_by activation grain)
effect_by (did.Cancelled activation) grain = effects.Cancelled (entry_by activation grain)
effect_by (did.Cached activation) grain = effects.Cached (entry_by activation grain)
effect_by did.Finding grain = effects.Finding grain
effect_by did.Forgot grain = effects.Forgot grain
effect_by did.NothingCached grain = effects.NothingCached grain
effect_by did.Nudged grain = effects.Nudged

-- the one letter of that number; none at 0
abbrev pub sent_by : ℕ → Option Span
sent_by letter = if letter == 0 then None else Some (record { first = letter; last = letter })
