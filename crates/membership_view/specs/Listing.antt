-- How the rows that a view lists are found, one after the other by address: silos of one endpoint are neighbours, by generation.
use Rattle.std.specs.Prelude.{ℕ, List, [], ◌∷◌, Option, Some, None, if◌then◌else◌, slice_get}
use Rattle.silo_address.specs.Silo.{Silo}
use Rattle.membership_view.specs.declared.status.Status.{Status}
use Rattle.membership_view.specs.declared.status.Status.TheVariants.{Active, Leaving, Dead}
use Rattle.membership_view.specs.View.{shares_endpoint}

-- the row of a silo, if there is one, that stands in front of that of the next one: none where it is Dead, and the next one is of its endpoint
abbrev pub before_by : Silo → Status → (next : Silo) → List (Silo × Status)
before_by silo Active next = (silo, Active) ∷ []
before_by silo Leaving next = (silo, Leaving) ∷ []
before_by silo Dead next = if shares_endpoint silo next then [] else (silo, Dead) ∷ []

abbrev pub before : Option (Silo × Status) → (next : Silo) → List (Silo × Status)
before None next = []
before (Some row) next = before_by row.0 row.1 next

-- the last row, if there is one
abbrev pub last_of : Option (Silo × Status) → List (Silo × Status)
last_of None = []
last_of (Some row) = row ∷ []

-- what a silo is that would stand at that index: Dead where the row there is of its endpoint
abbrev pub outlived_by : Option (Silo × Status) → Silo → Option Status
outlived_by None silo = None
outlived_by (Some row) silo = if shares_endpoint silo row.0 then Some Dead else None

abbrev pub outlived_at : List (Silo × Status) → (index : ℕ) → Silo → Option Status
outlived_at rows index silo = outlived_by (slice_get rows index) silo
