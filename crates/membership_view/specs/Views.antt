-- All views so far, as the row of each silo that is known.
use Rattle.std.specs.Prelude.{ℕ, List, [], Option, None, option_and_then, nat_le, if◌then◌else◌}
use Rattle.std.specs.Option.{option_map}
use Rattle.std.specs.List.{filter_map}
use Rattle.std.specs.Map.{lookup}
use Rattle.std.specs.BTreeMap.{is_at}
use Rattle.silo_address.specs.Silo.{Silo, silo_cmp}
use Rattle.membership_view.specs.declared.row.Row.{Row}
use Rattle.membership_view.specs.declared.status.Status.{Status}
use Rattle.membership_view.specs.Row.{status_in}
use Rattle.membership_view.specs.View.{ViewValue, listed_rows}

-- all views from a first version on. They begin with version 0, in which nobody is, or with what a later one lists
pub record ViewsValue : Type 0 where
  -- how many silos may be known
  pub limit : ℕ
  -- the version with which they begin, and the current one
  pub first : ℕ
  pub version : ℕ
  -- the row of each silo that is known, by address: of those that the first version lists, and of those that joined later
  pub rows : List (Silo × Row)

-- fewer silos than that may be known, and the version with which views begin is below it: 2^62, a quarter of what a version may be. Each silo
-- makes three versions at the most, so these stay below 2^64
abbrev pub most_known : ℕ
most_known = 4611686018427387904

-- the views of one version, in which nobody is known yet
abbrev pub views_from : (limit version : ℕ) → ViewsValue
views_from limit version = record { limit = limit; first = version; version = version; rows = [] }

-- the views before any change
abbrev pub first_views : (limit : ℕ) → ViewsValue
first_views limit = views_from limit 0

-- the row of a silo; none where it isn't known
abbrev pub row_of : ViewsValue → Silo → Option Row
row_of views silo = lookup (is_at (silo_cmp silo)) views.rows

-- what the rows say of one version: the silos that have joined by it, each with its status there
abbrev pub rows_in : ℕ → List (Silo × Row) → List (Silo × Status)
rows_in version rows = filter_map (λ e. option_map (λ status. (e.0, status)) (status_in version e.1)) rows

-- each silo that is known, with what it is in the current version
abbrev pub known_now : ViewsValue → List (Silo × Status)
known_now views = rows_in views.version views.rows

-- the view of a version; nobody is in one that has not been made yet, nor in one before the first
abbrev pub view_at : ViewsValue → ℕ → ViewValue
view_at views version =
    record { version = version; rows = if nat_le version views.version then listed_rows (rows_in version views.rows) else [] }

-- the status of a silo in a version, as its row tells it; none where it isn't known, hasn't joined by then, or there is no such version yet
abbrev pub status_at : ViewsValue → ℕ → Silo → Option Status
status_at views version silo = if nat_le version views.version then option_and_then (status_in version) (row_of views silo) else None

-- the version in which a silo joined, or the first one where that lists it; none where it isn't known
abbrev pub joining_version : ViewsValue → Silo → Option ℕ
joining_version views silo = option_map (λ row. row.joined) (row_of views silo)

-- the version in which it became Leaving, or the first one
abbrev pub leaving_version : ViewsValue → Silo → Option ℕ
leaving_version views silo = option_and_then (λ row. row.left) (row_of views silo)

-- the version in which it became Dead, or the first one
abbrev pub dying_version : ViewsValue → Silo → Option ℕ
dying_version views silo = option_and_then (λ row. row.dead) (row_of views silo)
