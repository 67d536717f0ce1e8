-- A change of membership that is decided, by what it makes.
use Rattle.std.proofs.Common.{◌≡◌, refl, ap, ◌∙◌, subst, ℕ, List}
use Rattle.std.specs.Prelude.{◌+◌, Bool, true, false, cond, nat_lt, length, Option, Some, None, Result, Ok, Err}
use Rattle.silo_address.specs.Silo.{Silo}
use Rattle.membership_view.specs.declared.status.Status.{Status}
use Rattle.membership_view.specs.declared.status.Status.TheVariants.{Active, Leaving, Dead}
use Rattle.membership_view.specs.Views.{ViewsValue, status_at}
use Rattle.membership_view.specs.Changes as change
use Rattle.hash_ring.specs.Places.{PlacesValue, after_add}
use Rattle.directory_rules.specs.declared.outcome.Happening.TheVariants.{Died}
use Rattle.directory_rules.specs.Settings.{Settings}
use Rattle.directory_rules.specs.Membership.{Change, Join, Leave, Die, Membership, placed, with_places, joined, with_views, changed, replaced_by}
use Rattle.directory_rules.specs.State.{World, Accepted}
use Rattle.directory_rules.specs.World.{membership_of}
use Rattle.directory_rules.specs.Happens.{tells, after_change, change_told, changed_by, is_of_dead, decides}

-- what is told of the change, and the world after it
abbrev pub made : World → Change → Membership → Result Accepted ℕ
made world change m =
    Ok (tells (after_change world change m) (change_told m.views.version change (replaced_by (membership_of world) change)))

-- of a change that is decided holds what holds of each refusal, and of what the change makes
pub decided : (C : Result Accepted ℕ → Type 0) (world : World) (change : Change) → ((number : ℕ) → C (Err number))
    → ((m : Membership) → changed world.settings (membership_of world) change ≡ Ok m → C (made world change m)) → C (decides world change)
decided C world change refused makes = by_dead (is_of_dead world change)
  where
    by_made : (o : Result Membership ℕ) → changed world.settings (membership_of world) change ≡ o → C (changed_by o world change)
    by_made (Err number) is = refused number
    by_made (Ok m) is = makes m is

    by_dead : (b : Bool) → C (cond b (Err 902) (changed_by (changed world.settings (membership_of world) change) world change))
    by_dead true = refused 902
    by_dead false = by_made (changed world.settings (membership_of world) change) refl

-- ---- What each change makes.

-- a join: the views after it, and the places with those stated
pub record JoinMakes (settings : Settings) (m next : Membership) (silo : Silo) (stated : List ℕ) : Type 0 where
  pub viewed : change.after_join m.views silo ≡ Ok next.views
  pub added : after_add m.places silo stated ≡ Ok next.places

-- any other change: the views after it
pub record ViewsMake (m next : Membership) (way : change.Change) : Type 0 where
  pub viewed : change.after m.views way ≡ Ok next.views
  pub places : next.places ≡ m.places

-- places that the settings let are those of a silo that is added
pub placed_added : (b : Bool) (places : Result PlacesValue ℕ) (next : PlacesValue) → cond b (Err 402) places ≡ Ok next → places ≡ Ok next
placed_added true places next is = absurd (cc)
placed_added false places next is = is

pub join_makes : (settings : Settings) (m next : Membership) (silo : Silo) (stated : List ℕ)
    → changed settings m (Join silo stated) ≡ Ok next → JoinMakes settings m next silo stated
join_makes settings m next silo stated is = by_views (change.after_join m.views silo) refl is
  where
    by_places : (views : ViewsValue) → change.after_join m.views silo ≡ Ok views → (o : Result PlacesValue ℕ)
        → placed settings m.places silo stated ≡ o → with_places o views ≡ Ok next
        → JoinMakes settings m next silo stated
    by_places views viewed (Err number) at is = absurd (cc (is))
    by_places views viewed (Ok places) at is =
        let same : record { views = views; places = places } ≡ next = cc (is) in
        subst (λ its. JoinMakes settings m its silo stated) same
        (record {
          viewed = viewed;
          added = placed_added (nat_lt settings.places (length stated)) (after_add m.places silo stated) places at;
        })

    by_views : (o : Result ViewsValue ℕ) → change.after_join m.views silo ≡ o → joined o settings m.places silo stated ≡ Ok next
        → JoinMakes settings m next silo stated
    by_views (Err number) viewed is = absurd (cc (is))
    by_views (Ok views) viewed is = by_places views viewed (placed settings m.places silo stated) refl is

views_make : (m next : Membership) (way : change.Change) (o : Result ViewsValue ℕ) → change.after m.views way ≡ o
    → with_views o m.places ≡ Ok next → ViewsMake m next way
views_make m next way (Err number) viewed is = absurd (cc (is))
views_make m next way (Ok views) viewed is =
    let same : record { views = views; places = m.places } ≡ next = cc (is) in
    subst (λ its. ViewsMake m its way) same (record { viewed = viewed; places = refl })

pub leave_makes : (settings : Settings) (m next : Membership) (silo : Silo) → changed settings m (Leave silo) ≡ Ok next
    → ViewsMake m next (change.Leave silo)
leave_makes settings m next silo is = views_make m next (change.Leave silo) (change.after m.views (change.Leave silo)) refl is

pub death_makes : (settings : Settings) (m next : Membership) (silo : Silo) → changed settings m (Die silo) ≡ Ok next
    → ViewsMake m next (change.Die silo)
death_makes settings m next silo is = views_make m next (change.Die silo) (change.after m.views (change.Die silo)) refl is

-- ---- A leave and a death, as views make them.
leave_same : (o : Option Status) (views next : ViewsValue) (silo : Silo) → change.leave_from o views silo ≡ Ok next
    → next ≡ change.with_leave views silo
leave_same None views next silo is = absurd (cc (is))
leave_same (Some Active) views next silo is = cc (is)
leave_same (Some Leaving) views next silo is = absurd (cc (is))
leave_same (Some Dead) views next silo is = absurd (cc (is))

death_same : (o : Option Status) (views next : ViewsValue) (silo : Silo) → change.die_from o views silo ≡ Ok next
    → next ≡ change.with_death views silo
death_same None views next silo is = absurd (cc (is))
death_same (Some Active) views next silo is = cc (is)
death_same (Some Leaving) views next silo is = cc (is)
death_same (Some Dead) views next silo is = absurd (cc (is))

-- what a leave and a death leave
abbrev pub left : Membership → Silo → Membership
left m silo = record { views = change.with_leave m.views silo; places = m.places }

abbrev pub dead : Membership → Silo → Membership
dead m silo = record { views = change.with_death m.views silo; places = m.places }

pub leave_is : (settings : Settings) (m next : Membership) (silo : Silo) → changed settings m (Leave silo) ≡ Ok next
    → (next ≡ left m silo) × (change.after m.views (change.Leave silo) ≡ Ok (change.with_leave m.views silo))
leave_is settings m next silo is =
    let makes = leave_makes settings m next silo is in
    let same = leave_same (status_at m.views m.views.version silo) m.views next.views silo makes.viewed in
    (made_of next (left m silo) same makes.places, subst (λ v. change.after m.views (change.Leave silo) ≡ Ok v) same makes.viewed)
  where
    made_of : (one other : Membership) → one.views ≡ other.views → one.places ≡ other.places → one ≡ other
    made_of one other views places =
        ap (λ v. record { views = v; places = one.places }) views ∙ ap (λ p. record { views = other.views; places = p }) places

pub death_is : (settings : Settings) (m next : Membership) (silo : Silo) → changed settings m (Die silo) ≡ Ok next
    → (next ≡ dead m silo) × (change.after m.views (change.Die silo) ≡ Ok (change.with_death m.views silo))
death_is settings m next silo is =
    let makes = death_makes settings m next silo is in
    let same = death_same (status_at m.views m.views.version silo) m.views next.views silo makes.viewed in
    (made_of next (dead m silo) same makes.places, subst (λ v. change.after m.views (change.Die silo) ≡ Ok v) same makes.viewed)
  where
    made_of : (one other : Membership) → one.views ≡ other.views → one.places ≡ other.places → one ≡ other
    made_of one other views places =
        ap (λ v. record { views = v; places = one.places }) views ∙ ap (λ p. record { views = other.views; places = p }) places

-- the silo is Dead from now on, and its node goes
abbrev pub died : World → Silo → Accepted
died world silo = tells (after_change world (Die silo) (dead (membership_of world) silo)) (Died (world.views.version + 1) silo)
