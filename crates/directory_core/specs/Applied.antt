-- An event applied by the code, in the rule's words.
use Rattle.std.specs.Prelude.{◌≡◌, ℕ, IsOk, Result, Ok, Err}
use Rattle.directory_rules.specs.State.{World, Accepted}
use Rattle.directory_rules.specs.PlainMachine.{IsPlainStep, plain_of, plain_step_of}
use Rattle.directory_rules.specs.declared.Event.{Event}
use Rattle.directory_rules.specs.declared.Event.TheVariants.{Leave, Kill, See, Do, Lose}
use Rattle.directory_rules.specs.declared.OwnStep.{OwnStep}
use Rattle.directory_rules.specs.declared.OwnStep.TheVariants.{Nudge, NudgeGrain, NudgeRanges}
use Rattle.directory_rules.specs.declared.Outcome.{Outcome}

-- accepted, or refused by 909 alone
abbrev pub IsOkOrFull : Result Accepted ℕ → Type 0
IsOkOrFull (Ok accepted) = Unit {0}
IsOkOrFull (Err number) = number ≡ 909

-- nothing that happens
abbrev pub IsNever : {A : Type 0} → Result A ℕ → Type 0
IsNever happened = ⊥

-- out of memory is excused where the rule accepts what an application asks; at a nudge also where the letters would be more than may
-- ever be sent
abbrev pub own_excused : OwnStep → Result Accepted ℕ → Type 0
own_excused Nudge happened = IsOkOrFull happened
own_excused (NudgeGrain grain) happened = IsOkOrFull happened
own_excused NudgeRanges happened = IsOkOrFull happened
own_excused step happened = IsOk happened

-- out of memory is excused where the rule accepts an event for which something is allocated; at a sight and a nudge, whose letters
-- are known only when they are made, also where they would be more than may ever be sent
abbrev pub excused : Event → Result Accepted ℕ → Type 0
excused (Leave silo) happened = IsNever happened
excused (Kill silo) happened = IsNever happened
excused (Lose number) happened = IsNever happened
excused (See silo version) happened = IsOkOrFull happened
excused (Do silo step) happened = own_excused step happened
excused event happened = IsOk happened

-- seen from outside, the event that told this outcome is the step of the plain machine which it tells
abbrev pub IsPlainlyTold : World → Outcome → World → Type 0
IsPlainlyTold before outcome after = IsPlainStep (plain_of before) (plain_step_of outcome.happening) (plain_of after)
