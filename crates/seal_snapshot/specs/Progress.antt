-- What comes of a page, as its taker is told.
use Rattle.std.specs.Prelude.{◌≡◌, ℕ, Result, Ok, Err, IsSomeAnd, IsOk, MatchOption}
use Rattle.directory_rules.specs.State.{Gathering}
use Rattle.directory_rules.specs.Gatherings.{Gathered, Wants_page, Has_all, Refuses}
use Rattle.seal_snapshot.specs.declared.error.GatheringError.{GatheringError}
use Rattle.seal_snapshot.specs.declared.progress.GatheringProgress.{GatheringProgress}
use Rattle.seal_snapshot.specs.declared.progress.GatheringProgress.TheVariants.{More, Complete}
use Rattle.seal_snapshot.specs.Numbers.{gathering_error_number}

-- how far the gathering is, or the number by which the page is refused
abbrev pub progress_of : Gathered → Result GatheringProgress ℕ
progress_of (Wants_page gathering) = Ok More
progress_of (Has_all entries) = Ok Complete
progress_of (Refuses number gathering) = Err number

-- what the rule makes of a page is this progress, to this gathering
abbrev pub Reaches : GatheringProgress → Gathering → Gathered → Type 0
Reaches More gathering outcome = outcome ≡ Wants_page gathering
Reaches Complete gathering outcome = outcome ≡ Has_all gathering.entries

-- a fault that refuses by its number
abbrev pub IsRefused : Result GatheringProgress ℕ → GatheringError → Type 0
IsRefused progress fault = IsSomeAnd (gathering_error_number fault) (λ number. progress ≡ Err number)

-- a fault that refuses the page by its number and leaves what the rule leaves, or out of memory, which comes of a page that
-- nothing refuses, and changes nothing
abbrev pub IsRefusedOrLacksMemory : GatheringError → (before after : Gathering) → Gathered → Type 0
IsRefusedOrLacksMemory fault before after outcome =
    MatchOption (gathering_error_number fault) (IsOk (progress_of outcome) × (after ≡ before)) (λ number. outcome ≡ Refuses number after)
