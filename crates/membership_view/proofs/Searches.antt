-- What a join looks for, told by silos and statuses.
use Rattle.std.proofs.Common.{◌≡◌, ◌≢◌, ℕ, ◌<◌, Bool, true, false, nat_le, is_some, Option, Some, None, IsSome, refl, sym, ◌∙◌, ap, arith, subst, option_and_then, if◌then◌else◌}
use Rattle.std.specs.Option.{option_map}
use Rattle.silo_address.specs.Silo.{Silo, IsSameEndpoint}
use Rattle.membership_view.specs.declared.row.Row.{Row}
use Rattle.membership_view.specs.declared.status.Status.TheVariants.{Active, Leaving, Dead}
use Rattle.membership_view.specs.Row.{has_come, status_in}
use Rattle.membership_view.specs.Views.{ViewsValue, row_of, status_at}
use Rattle.membership_view.specs.Changes.{is_newest, occupant}
use Rattle.membership_view.specs.Whole.{IsViews}
use Rattle.membership_view.specs.Laws.{NewestIs, OccupantIs, IsLiveIn}
use Rattle.membership_view.proofs.Order.{Decides-shares}
use Rattle.membership_view.proofs.Statuses.{there_from}
use Rattle.membership_view.proofs.Known.{status_at-made}
use Rattle.membership_view.proofs.SameEndpoint.{lower_generation, newest_from, occupant_is, occupant_some}
use Rattle.membership_view.proofs.Kept.{occupant_row}

pub newest_is : NewestIs
newest_is views whole silo = (
  λ newest other same there. lower newest other same (row_of views other) refl there,
  λ each. newest_from silo views.rows whole.in_order
      (λ q row found shares. each q ((Decides-shares silo q).0 shares) (ap (λ o. is_some (option_map (λ (r : Row). r.joined) o)) found)),
)
  where
    lower : is_newest silo views.rows ≡ true → (other : Silo) → IsSameEndpoint silo other → (o : Option Row) → row_of views other ≡ o
        → IsSome (option_map (λ (r : Row). r.joined) o) → other.generation < silo.generation
    lower newest other same None is there = cc
    lower newest other same (Some row) is there = lower_generation silo views.rows newest other row is ((Decides-shares silo other).1 same)

-- a silo whose row is not dead is there and isn't Dead in the current view
live_now : (views : ViewsValue) → IsViews views → (silo : Silo) (row : Row) → row_of views silo ≡ Some row → row.dead ≡ None
    → IsLiveIn views views.version silo
live_now views whole silo row found none =
    let says : status_at views views.version silo ≡ status_in views.version row =
    status_at-made views whole.in_order views.version silo (omega arith) ∙ ap (λ o. option_and_then (status_in views.version) o) found in (
      subst (λ o. IsSome o) (sym says) (there_from views.version row (whole.in_time silo row found).joined_by),
      λ dead. never row views.version none (sym says ∙ dead),
    )
  where
    never_by : (left joined : Bool) → (if left then Some Leaving else (if joined then Some Active else None)) ≡ Some Dead → ⊥
    never_by true joined h = cc
    never_by false true h = cc
    never_by false false h = cc

    never : (row : Row) (version : ℕ) → row.dead ≡ None → status_in version row ≡ Some Dead → ⊥
    never row version none h =
        never_by (has_come row.left version) (nat_le row.joined version)
        (sym (ap (λ c. if has_come c version then Some Dead else
        (if has_come row.left version then Some Leaving else (if nat_le row.joined version then Some Active else None))) none) ∙ h)

pub occupant_law : OccupantIs
occupant_law views whole silo old = (there, back)
  where
    there : occupant silo views.rows ≡ Some old → IsSameEndpoint silo old × IsLiveIn views views.version old
    there h =
        let is = occupant_is silo views.rows whole.in_order old h in
        ((Decides-shares silo old).0 is.shares, live_now views whole old is.row is.found is.not_dead)

    back_by : (o : Option Row) → row_of views old ≡ o → IsSameEndpoint silo old → IsSome (option_and_then (status_in views.version) o)
        → option_and_then (status_in views.version) o ≢ Some Dead → occupant silo views.rows ≡ Some old
    back_by None is same there not_dead = cc
    back_by (Some row) is same there not_dead =
        occupant_some views.rows whole.in_order whole.older_dead silo old row is ((Decides-shares silo old).1 same)
        (occupant_row views.version row (whole.in_time old row is) not_dead)

    back : IsSameEndpoint silo old × IsLiveIn views views.version old → occupant silo views.rows ≡ Some old
    back h =
        let says = status_at-made views whole.in_order views.version old (omega arith) in
        back_by (row_of views old) refl h.0 (subst (λ o. IsSome o) says (h.1).0) (λ dead. (h.1).1 (says ∙ dead))
