-- A silo's row, and what the silo is in the view of a version.
use Rattle.std.specs.Prelude.{ℕ, ◌==◌, Bool, true, false, nat_le, if◌then◌else◌, Option, Some, None}
use Rattle.membership_view.specs.declared.row.Row.{Row}
use Rattle.membership_view.specs.declared.status.Status.{Status}
use Rattle.membership_view.specs.declared.status.Status.TheVariants.{Active, Leaving, Dead}

-- whether a status is Active
abbrev pub is_active : Status → Bool
is_active Active = true
is_active Leaving = false
is_active Dead = false

-- whether a change, made in that version if ever, had been made by another version
abbrev pub has_come : Option ℕ → ℕ → Bool
has_come None version = false
has_come (Some made) version = nat_le made version

-- whether that version is the one in which a change was made, if it was
abbrev pub is_made_in : ℕ → Option ℕ → Bool
is_made_in version None = false
is_made_in version (Some made) = made == version

-- whether the silo was Dead in the version with which the views begin, of which alone a row says that it joined and died there
abbrev pub was_dead : Row → Bool
was_dead row = is_made_in row.joined row.dead

-- the status in a version: that of the last change which had been made by then, and none before the silo joined
abbrev pub status_in : ℕ → Row → Option Status
status_in version row =
    if has_come row.dead version then Some Dead
    else (if has_come row.left version then Some Leaving
    else (if nat_le row.joined version then Some Active else None))

-- a silo that joins in a version
abbrev pub joining : ℕ → Row
joining version = record { joined = version; left = None; dead = None }

-- the row of a silo that begins to leave in a version
abbrev pub leaving : ℕ → Row → Row
leaving version row = record row { left = Some version }

-- the row of a silo that becomes Dead in a version
abbrev pub dying : ℕ → Row → Row
dying version row = record row { dead = Some version }
