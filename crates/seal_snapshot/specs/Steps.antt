-- Steps of private functions: a page that is wanted, and one that isn't.
use Rattle.std.specs.Prelude.{◌≡◌, ◌==◌, ◌&&◌, Bool, true, false}
use Rattle.ring_range.specs.Range.{range_eq}
use Rattle.directory_rules.specs.State.{Page, Gathering}
use Rattle.directory_rules.specs.Gatherings.{is_in_turn}
use Rattle.seal_snapshot.specs.declared.error.GatheringError.{GatheringError}
use Rattle.seal_snapshot.specs.declared.error.GatheringError.TheVariants as fault

-- whether the page is of the gathering's version and range
abbrev pub is_of : Gathering → Page → Bool
is_of gathering page = (page.version == gathering.version) && range_eq page.range gathering.range

-- it is, and in its turn
abbrev pub IsWanted : Gathering → Page → Type 0
IsWanted gathering page = (is_of gathering page ≡ true) × (is_in_turn gathering page ≡ true)

-- the first of both that it isn't
abbrev pub Rejects : GatheringError → Gathering → Page → Type 0
Rejects fault.WrongVersion gathering page = is_of gathering page ≡ false
Rejects fault.OutOfTurn gathering page = (is_of gathering page ≡ true) × (is_in_turn gathering page ≡ false)
Rejects fault.WrongDigest gathering page = ⊥
Rejects fault.OutOfMemory gathering page = ⊥
