-- An Active silo has a point on the current ring, so each hash has an owner; and the plan changes neither views nor places.
use Rattle.std.proofs.Common.{arith, ◌≡◌, refl, sym, subst, ◌∙◌, List, []}
use Rattle.std.specs.Prelude.{⊤, IsSome, Contains, slice_index, Option, Some, None}
use Rattle.membership_view.specs.declared.status.Status.TheVariants.{Active}
use Rattle.membership_view.specs.Views.{row_of, status_at}
use Rattle.membership_view.specs.declared.row.Row.{Row}
use Rattle.membership_view.proofs.Kept.{has_row}
use Rattle.membership_view.proofs.Said.{views_say_statuses}
use Rattle.hash_ring.specs.declared.point.Point.{Point}
use Rattle.hash_ring.specs.Places.{places_of}
use Rattle.hash_ring.specs.Ring.{points_of}
use Rattle.hash_ring.proofs.Lawful.{points_are, is_sorted_anew}
use Rattle.directory_rules.specs.Settings.{Settings}
use Rattle.directory_rules.specs.World.{current_view, current_ring}
use Rattle.directory_rules.proofs.Peopled.{peopled_after}
use Rattle.directory_rules.proofs.Reached.{reached}
use Rattle.directory_facts.specs.Laws.{world_by}
use Rattle.directory_facts.proofs.Lawful.{rows_have_places, events_name_hashes}
use Rattle.directory_headline.proofs.Settings.{view_by_address}
use Rattle.progress_rules.specs.Plan.{HasOwners}
use Rattle.progress_rules.specs.Limits.{ActiveSilosOwn, ComesBackWhereActive}
use Rattle.progress_rules.proofs.All.{comes_back}
use Rattle.progress_rules.proofs.Answered.{some_of}
use Rattle.progress_rules.proofs.Homes.{rings_have_owners}
use Rattle.progress_rules.proofs.PlanEnds.{PlanKeeps, Reached, Ends, plan_ends}

-- ---- a point of an Active silo
there : (o : Option Row) (row : Row) → o ≡ Some row → IsSome o
there None row is = absurd (cc (is))
there (Some its) row is = refl

none_in_none : (p : Point) → Contains [] p → ⊥
none_in_none p has = omega (arith, has.1)

pub active_silos_own : ActiveSilosOwn
active_silos_own settings events are named has =
    let world = world_by settings events in
    let whole = (peopled_after settings events are).whole in
    let row = has_row world.views whole has.silo Active has.active in
    let added = (rows_have_places settings events are).added has.silo (there (row_of world.views has.silo) row.row row.found) in
    let its = some_of (places_of world.places has.silo) added in
    let places = (reached settings events are (events_name_hashes events named)).places in
    let some = (places.each has.silo its.0 its.1).some in
    let p : Point = record { place = slice_index its.0 0; silo = has.silo; index = 0 } in
    let is_there : IsSome (status_at world.views world.views.version has.silo) = subst (λ o. IsSome o) (sym has.active) refl in
    let said = views_say_statuses world.views whole has.silo world.views.version (omega arith) is_there in
    let of_view : Contains (points_of (current_view world) world.places) p =
    (points_are (current_view world) (view_by_address world.views world.views.version whole) world.places p).1
    (record { active = said ∙ has.active; its_places = its.0; has = its.1; within = some; at = refl }) in
    let on_ring : Contains (current_ring world) p = (is_sorted_anew (points_of (current_view world) world.places)).same.back p of_view in
    rings_have_owners world (λ none. none_in_none p (subst (λ (points : List Point). Contains points p) none on_ring))

-- ---- the plan's events leave the ring
leaves_owners : (settings : Settings) → PlanKeeps settings HasOwners (λ number. ⊤)
leaves_owners settings = record {
  sees = λ world after silo r owned it. subst HasOwners (sym it.is) owned;
  nudges = λ world after silo r owned it. subst HasOwners (sym it.is) owned;
  delivers = λ world after number r owned it. subst HasOwners (sym it.is) owned;
  refuses = λ world silo input number r owned refused. tt;
}

pub comes_back_where_active : ComesBackWhereActive
comes_back_where_active settings events after are named has is =
    let ends =
    plan_ends settings are HasOwners (λ number. ⊤) (leaves_owners settings) (world_by settings events)
    (record { events = events; named = named; is = refl }, active_silos_own settings events are named has) in
    comes_back settings events after are named is (subst (Ends (Reached settings HasOwners) (λ number. ⊤)) is ends).1
