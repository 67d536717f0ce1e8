-- What a silo's application asks of it: data that rule and code share.
use Rattle.std.specs.Prelude.{⊤}
use Rattle.silo_address.specs.Silo.{IsSilo}
use Rattle.silo_address.specs.Grain.{IsGrain}
use Rattle.directory_rules.specs.declared.own_step.OwnStep.{OwnStep}
use Rattle.directory_rules.specs.declared.own_step.OwnStep.TheVariants.{Wake, Close, Cancel, Find, Forget, Nudge, NudgeGrain, NudgeRanges, Offer}

-- it names grains and silos
abbrev pub IsOwnStep : OwnStep → Type 0
IsOwnStep (Wake grain) = IsGrain grain
IsOwnStep (Close grain) = IsGrain grain
IsOwnStep (Cancel grain) = IsGrain grain
IsOwnStep (Find grain) = IsGrain grain
IsOwnStep (Forget grain) = IsGrain grain
IsOwnStep Nudge = ⊤
IsOwnStep (NudgeGrain grain) = IsGrain grain
IsOwnStep NudgeRanges = ⊤
IsOwnStep (Offer grain to) = IsGrain grain × IsSilo to
