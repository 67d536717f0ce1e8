-- The changes of membership: what each makes of the views, or the number by which it is refused.
use Rattle.std.specs.Prelude.{ℕ, ◌+◌, ◌&&◌, ◌||◌, not, Bool, List, length, map, find, Option, Some, None, is_none, Result, Ok, Err, nat_lt, if◌then◌else◌}
use Rattle.std.specs.Option.{option_map}
use Rattle.std.specs.List.{list_all}
use Rattle.std.specs.BTreeMap.{is_at, insert_entry}
use Rattle.silo_address.specs.Silo.{Silo, silo_cmp}
use Rattle.membership_view.specs.declared.row.Row.{Row}
use Rattle.membership_view.specs.declared.status.Status.{Status}
use Rattle.membership_view.specs.declared.status.Status.TheVariants.{Active, Leaving, Dead}
use Rattle.membership_view.specs.Row.{joining, leaving, dying}
use Rattle.membership_view.specs.View.{shares_endpoint}
use Rattle.membership_view.specs.Views.{ViewsValue, status_at}

-- a change of membership
pub data Change : Type 0 where
  Join : Silo → Change
  Leave : Silo → Change
  Die : Silo → Change

-- whether every silo of this one's endpoint that is known has a lower generation
abbrev pub is_newest : Silo → List (Silo × Row) → Bool
is_newest silo rows = list_all (λ e. not (shares_endpoint silo e.0) || nat_lt e.0.generation silo.generation) rows

-- the silo of this one's endpoint that is not Dead, if there is one
abbrev pub occupant : Silo → List (Silo × Row) → Option Silo
occupant silo rows = option_map (λ e. e.0) (find (λ e. shares_endpoint silo e.0 && is_none e.1.dead) rows)

-- the rows, with a change made to that of one silo
abbrev pub changed : (Row → Row) → Silo → List (Silo × Row) → List (Silo × Row)
changed change silo rows = map (λ e. (e.0, if is_at (silo_cmp silo) e.0 then change e.1 else e.1)) rows

-- the rows, with that of the silo that is replaced, if there is one, dying in a version
abbrev pub without : Option Silo → ℕ → List (Silo × Row) → List (Silo × Row)
without None version rows = rows
without (Some old) version rows = changed (dying version) old rows

-- the rows once a silo has joined in a version: its row is put in, and an older one of its endpoint that isn't Dead dies
abbrev pub joined_rows : Silo → ℕ → List (Silo × Row) → List (Silo × Row)
joined_rows silo version rows = without (occupant silo rows) version (insert_entry silo_cmp rows silo (joining version))

-- the views after an accepted change: one version more, and these rows
abbrev pub next_views : ViewsValue → List (Silo × Row) → ViewsValue
next_views views rows = record views { version = views.version + 1; rows = rows }

-- the views after a silo has joined
abbrev pub with_join : ViewsValue → Silo → ViewsValue
with_join views silo = next_views views (joined_rows silo (views.version + 1) views.rows)

-- the views after a silo has begun to leave
abbrev pub with_leave : ViewsValue → Silo → ViewsValue
with_leave views silo = next_views views (changed (leaving (views.version + 1)) silo views.rows)

-- the views after a silo has died
abbrev pub with_death : ViewsValue → Silo → ViewsValue
with_death views silo = next_views views (changed (dying (views.version + 1)) silo views.rows)

-- a silo joins: 201 where it isn't the newest of its endpoint, then 205 where as many silos are known as may be
abbrev pub after_join : ViewsValue → Silo → Result ViewsValue ℕ
after_join views silo =
    if not (is_newest silo views.rows) then Err 201
    else (if not (nat_lt (length views.rows) views.limit) then Err 205
    else Ok (with_join views silo))

-- a silo leaves, by its status in the current view: 202 where it never joined, 203 where it isn't Active
abbrev pub leave_from : Option Status → ViewsValue → Silo → Result ViewsValue ℕ
leave_from None views silo = Err 202
leave_from (Some Active) views silo = Ok (with_leave views silo)
leave_from (Some Leaving) views silo = Err 203
leave_from (Some Dead) views silo = Err 203

-- a silo becomes Dead, by its status in the current view: 202 where it never joined, 204 where it is Dead
abbrev pub die_from : Option Status → ViewsValue → Silo → Result ViewsValue ℕ
die_from None views silo = Err 202
die_from (Some Active) views silo = Ok (with_death views silo)
die_from (Some Leaving) views silo = Ok (with_death views silo)
die_from (Some Dead) views silo = Err 204

-- the views after a change, or the number by which it is refused
abbrev pub after : ViewsValue → Change → Result ViewsValue ℕ
after views (Join silo) = after_join views silo
after views (Leave silo) = leave_from (status_at views views.version silo) views silo
after views (Die silo) = die_from (status_at views views.version silo) views silo
