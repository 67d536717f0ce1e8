-- What all views so far keep at every moment.
use Rattle.std.specs.Prelude.{◌≡◌, ℕ, ◌+◌, ◌<◌, ◌≤◌, IsTrue, List, length, sum_by, Some, is_some, if◌then◌else◌}
use Rattle.std.specs.List.Sorted.{IsStrictlySortedBy}
use Rattle.std.specs.Map.{lookup, keys_of, values_of}
use Rattle.std.specs.BTreeMap.{is_at}
use Rattle.silo_address.specs.Silo.{Silo, silo_cmp, IsSameEndpoint}
use Rattle.membership_view.specs.declared.row.Row.{Row}
use Rattle.membership_view.specs.Row.{has_come}
use Rattle.membership_view.specs.Views.{ViewsValue, most_known, row_of}

-- a row whose changes were made in versions that have been, from the first one on, and after the silo joined; those that were made before
-- the first version stand there
pub record IsInTime (first version : ℕ) (row : Row) : Type 0 where
  pub joined_above : 0 < row.joined
  pub joined_from : first ≤ row.joined
  pub joined_by : row.joined ≤ version
  pub left_after : (made : ℕ) → row.left ≡ Some made → (row.joined ≤ made) × (made ≤ version)
  pub dead_after : (made : ℕ) → row.dead ≡ Some made → (row.joined ≤ made) × (made ≤ version)
  pub left_later : (made : ℕ) → row.left ≡ Some made → made ≡ row.joined → made ≡ first
  pub dead_later : (made : ℕ) → row.dead ≡ Some made → made ≡ row.joined → made ≡ first

-- how many changes a row has seen: its silo's joining, leaving and death
abbrev pub changes_of : Row → ℕ
changes_of row = 1 + (if is_some row.left then 1 else 0) + (if is_some row.dead then 1 else 0)

-- an older silo of an endpoint is Dead from the joining of a newer one on
abbrev pub OlderAreDead : List (Silo × Row) → Type 0
OlderAreDead rows = (older newer : Silo) (row next : Row) → lookup (is_at (silo_cmp older)) rows ≡ Some row → lookup (is_at (silo_cmp newer)) rows ≡ Some next
    → IsSameEndpoint newer older → older.generation < newer.generation → IsTrue (has_come row.dead next.joined)

-- what the views so far keep
pub record IsViews (views : ViewsValue) : Type 0 where
  pub limit_above : 0 < views.limit
  pub limit_below : views.limit < most_known
  pub first_below : views.first < most_known
  pub first_upto : views.first ≤ views.version
  pub within_limit : length views.rows ≤ views.limit
  -- each silo has one row, and the rows are in order of address
  pub in_order : IsStrictlySortedBy silo_cmp (keys_of views.rows)
  pub in_time : (silo : Silo) (row : Row) → row_of views silo ≡ Some row → IsInTime views.first views.version row
  pub older_dead : OlderAreDead views.rows
  -- from the first version on there are no more than changes that the rows tell of
  pub counted : views.version ≤ views.first + sum_by changes_of (values_of views.rows)
