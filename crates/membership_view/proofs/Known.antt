-- The status of a silo in a version that has been made.
use Rattle.std.proofs.Common.{◌≡◌, ℕ, ◌≤◌, None, ap, option_and_then, if◌then◌else◌}
use Rattle.std.proofs.lemmas.Bool.{le-leb}
use Rattle.std.specs.List.Sorted.{IsStrictlySortedBy}
use Rattle.std.specs.Map.{keys_of}
use Rattle.silo_address.specs.Silo.{Silo, silo_cmp}
use Rattle.membership_view.specs.Row.{status_in}
use Rattle.membership_view.specs.Views.{ViewsValue, row_of, status_at}

-- it is what the row says
pub status_at-made : (views : ViewsValue) → IsStrictlySortedBy silo_cmp (keys_of views.rows) → (version : ℕ) (silo : Silo)
    → version ≤ views.version
    → status_at views version silo ≡ option_and_then (status_in version) (row_of views silo)
status_at-made views s version silo made =
    ap (λ b. if b then option_and_then (status_in version) (row_of views silo) else None) (le-leb version views.version made)
