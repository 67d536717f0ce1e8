-- What a view says of a silo. Whether it is Active there is said with the ring: `is_active_in`.
use Rattle.std.specs.Prelude.{Bool, true, false, not, List, filter, Option, Some, None}
use Rattle.std.specs.Map.{keys_of}
use Rattle.silo_address.specs.Silo.{Silo}
use Rattle.membership_view.specs.declared.status.Status.{Status}
use Rattle.membership_view.specs.declared.status.Status.TheVariants.{Active, Leaving, Dead}
use Rattle.membership_view.specs.View.{ViewValue, status_of}

-- whether a status is Dead
abbrev pub is_dead_status : Status → Bool
is_dead_status Active = false
is_dead_status Leaving = false
is_dead_status Dead = true

-- whether there is a status and it is Dead
abbrev pub is_known_dead : Option Status → Bool
is_known_dead None = false
is_known_dead (Some status) = is_dead_status status

-- whether the silo is Dead in the view; one that the view doesn't know isn't
abbrev pub is_dead_in : ViewValue → Silo → Bool
is_dead_in view silo = is_known_dead (status_of view silo)

-- the silos of the view that aren't Dead there, by address
abbrev pub members_of : ViewValue → List Silo
members_of view = keys_of (filter (λ row. not (is_dead_status row.1)) view.rows)
