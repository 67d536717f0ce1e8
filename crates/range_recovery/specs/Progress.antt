-- What comes of a report, as its taker is told.
use Rattle.std.specs.Prelude.{◌≡◌, ◌==◌, ℕ, length, if◌then◌else◌, true, [], None, Result, Ok, Err, IsSomeAnd, IsOk, MatchOption}
use Rattle.silo_address.specs.Silo.{Silo}
use Rattle.ring_range.specs.Range.{Range}
use Rattle.directory_rules.specs.State.{Recovery, Report}
use Rattle.directory_rules.specs.Recovery.{Recovered, Has_more, Awaits_more, Has_union, Rejects, recovered}
use Rattle.range_recovery.specs.declared.error.RecoveryError.{RecoveryError}
use Rattle.range_recovery.specs.declared.progress.RecoveryProgress.{RecoveryProgress}
use Rattle.range_recovery.specs.declared.progress.RecoveryProgress.TheVariants.{Continues, More, Complete}
use Rattle.range_recovery.specs.Numbers.{recovery_error_number}

-- how far the recovery is, or the number by which the report is refused
abbrev pub progress_of : Recovered → Result RecoveryProgress ℕ
progress_of (Has_more recovery) = Ok Continues
progress_of (Awaits_more recovery) = Ok More
progress_of (Has_union table) = Ok Complete
progress_of (Rejects number) = Err number

-- the report of a silo that has seen the version and has nothing in the range
abbrev pub nothing_of : (version : ℕ) → Range → Silo → Report
nothing_of version range silo = record { version = version; range = range; silo = silo; after = None; entries = []; last = true }

-- how far the recovery is when one more of the silos that it awaits has told all
abbrev pub after_one_more : Recovery → RecoveryProgress
after_one_more recovery = if length recovery.awaiting == 1 then Complete else More

-- what the rule makes of a report is this progress, to this recovery
abbrev pub Reaches : RecoveryProgress → Recovery → Recovered → Type 0
Reaches Continues recovery outcome = outcome ≡ Has_more recovery
Reaches More recovery outcome = outcome ≡ Awaits_more recovery
Reaches Complete recovery outcome = outcome ≡ Has_union recovery.gathered

-- a fault that refuses a report by its number
abbrev pub Refuses : Recovery → Report → RecoveryError → Type 0
Refuses recovery report fault = IsSomeAnd (recovery_error_number fault) (λ number. recovered recovery report ≡ Rejects number)

-- the same, or out of memory at a report that nothing refuses
abbrev pub RefusesOrLacksMemory : Recovery → Report → RecoveryError → Type 0
RefusesOrLacksMemory recovery report fault =
    MatchOption (recovery_error_number fault) (IsOk (progress_of (recovered recovery report))) (λ number. recovered recovery report ≡ Rejects number)
