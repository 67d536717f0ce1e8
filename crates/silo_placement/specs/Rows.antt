-- What placement reads off the rows of a view.
use Rattle.std.specs.Prelude.{ℕ, ◌%◌, ◌==◌, if◌then◌else◌, List, Option, Some, None, length, filter}
use Rattle.std.specs.List.{slice_get}
use Rattle.std.specs.Map.{keys_of}
use Rattle.silo_address.specs.Silo.{Silo}
use Rattle.membership_view.specs.Row.{is_active}
use Rattle.membership_view.specs.declared.Status.{Status}
use Rattle.directory_rules.specs.Placement.{fewer_of}

-- the silos that are Active in the rows
abbrev pub active_of : List (Silo × Status) → List Silo
active_of rows = keys_of (filter (λ row. is_active row.1) rows)

-- of them the one at the hash modulo their number
abbrev pub hashed_in : List (Silo × Status) → (hash : ℕ) → Option Silo
hashed_in rows hash = if length (active_of rows) == 0 then None else slice_get (active_of rows) (hash % length (active_of rows))

-- of two silos, if there are two, the one with fewer activations, or the first if they have as many
abbrev pub lesser_of : List (Silo × ℕ) → Option Silo → Option Silo → Option Silo
lesser_of counts None second = second
lesser_of counts (Some first) second = Some (fewer_of counts first second)
