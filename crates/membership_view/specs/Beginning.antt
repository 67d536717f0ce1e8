-- Views that begin with what one version lists, in place of the changes that made it.
use Rattle.std.specs.Prelude.{ℕ, ◌==◌, ◌||◌, not, nat_lt, Bool, List, length, Some, None, Result, Ok, Err, if◌then◌else◌}
use Rattle.std.specs.List.{list_any}
use Rattle.std.specs.BTreeMap.{insert_entry}
use Rattle.silo_address.specs.Silo.{Silo, silo_cmp}
use Rattle.membership_view.specs.declared.row.Row.{Row}
use Rattle.membership_view.specs.declared.status.Status.{Status}
use Rattle.membership_view.specs.declared.status.Status.TheVariants.{Active, Leaving, Dead}
use Rattle.membership_view.specs.View.{shares_endpoint}
use Rattle.membership_view.specs.Views.{ViewsValue}

-- the row of a silo that the first version lists: whatever became of it is known from then on
abbrev pub beginning : (first : ℕ) → Status → Row
beginning first Active = record { joined = first; left = None; dead = None }
beginning first Leaving = record { joined = first; left = Some first; dead = None }
beginning first Dead = record { joined = first; left = None; dead = Some first }

-- whether a silo of this one's endpoint is known
abbrev pub is_known_endpoint : Silo → List (Silo × Row) → Bool
is_known_endpoint silo rows = list_any (λ e. shares_endpoint silo e.0) rows

-- these views with a silo that their first version lists
abbrev pub with_listed : ViewsValue → Silo → Status → ViewsValue
with_listed views silo status = record views { rows = insert_entry silo_cmp views.rows silo (beginning views.first status) }

-- the first version lists a silo: 210 where that is version 0, or the endpoint was listed, since one silo of each is; then 205 where as
-- many silos are known as may be
abbrev pub after_listing : ViewsValue → Silo → Status → Result ViewsValue ℕ
after_listing views silo status =
    if (views.first == 0) || is_known_endpoint silo views.rows then Err 210
    else (if not (nat_lt (length views.rows) views.limit) then Err 205
    else Ok (with_listed views silo status))
