-- A view: one version of membership.
use Rattle.std.specs.Prelude.{ℕ, ◌==◌, ◌&&◌, nat_lt, not, Bool, false, List, Option, Some, None, filter, if◌then◌else◌}
use Rattle.std.specs.Cmp.Lexicographic.{pointwise}
use Rattle.std.specs.List.{list_any}
use Rattle.std.specs.List.Sorted.{IsStrictlySortedBy}
use Rattle.std.specs.Map.{lookup, keys_of}
use Rattle.std.specs.BTreeMap.{is_at}
use Rattle.silo_address.specs.Silo.{Silo, silo_cmp}
use Rattle.membership_view.specs.declared.status.Status.{Status}
use Rattle.membership_view.specs.declared.status.Status.TheVariants.{Active, Leaving, Dead}
use Rattle.membership_view.specs.Row.{is_active}

-- a version, and the silos that have joined by it with their statuses there, by address: the Dead ones but where a newer silo of their
-- endpoint is listed
pub record ViewValue : Type 0 where
  pub version : ℕ
  pub rows : List (Silo × Status)

-- each silo has one row, and the rows are in order of address
abbrev pub IsByAddress : ViewValue → Type 0
IsByAddress view = IsStrictlySortedBy silo_cmp (keys_of view.rows)

-- whether two silos have one endpoint, whatever their generations
abbrev pub shares_endpoint : Silo → Silo → Bool
shares_endpoint a b = pointwise ◌==◌ a.ip b.ip && (a.port == b.port)

-- whether one silo is newer than another one of its endpoint
abbrev pub is_newer : Silo → Silo → Bool
is_newer silo older = shares_endpoint older silo && nat_lt older.generation silo.generation

-- whether a newer silo of this one's endpoint is listed
abbrev pub is_outlived : Silo → List (Silo × Status) → Bool
is_outlived silo rows = list_any (λ row. is_newer row.0 silo) rows

-- whether a row says nothing that the others don't: its silo is Dead, and a newer one of its endpoint is listed
abbrev pub is_spare : List (Silo × Status) → Silo → Status → Bool
is_spare rows silo Active = false
is_spare rows silo Leaving = false
is_spare rows silo Dead = is_outlived silo rows

-- the rows that a view lists of all
abbrev pub listed_rows : List (Silo × Status) → List (Silo × Status)
listed_rows rows = filter (λ row. not (is_spare rows row.0 row.1)) rows

-- by the silo's row, if it is listed; else it is Dead where a newer one of its endpoint is
abbrev pub or_outlived : Option Status → (outlived : Bool) → Option Status
or_outlived None outlived = if outlived then Some Dead else None
or_outlived (Some status) outlived = Some status

-- the status of a silo in a view; none where neither it nor a newer one of its endpoint is listed
abbrev pub status_of : ViewValue → Silo → Option Status
status_of view silo = or_outlived (lookup (is_at (silo_cmp silo)) view.rows) (is_outlived silo view.rows)

-- the silos that are Active in a view, by address
abbrev pub active_silos : ViewValue → List Silo
active_silos view = keys_of (filter (λ row. is_active row.1) view.rows)
