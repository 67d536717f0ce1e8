-- Every accepted event takes the views and places of a world on.
use Rattle.std.proofs.Common.{arith, ◌≡◌, ℕ, ◌≤◌, List, refl, ap}
use Rattle.std.specs.Prelude.{Option, Some, None, Ok, IfOk}
use Rattle.silo_address.specs.Silo.{Silo}
use Rattle.membership_view.specs.Views.{ViewsValue, view_at}
use Rattle.membership_view.specs.Changes as change
use Rattle.membership_view.specs.Laws.{Accepts}
use Rattle.membership_view.proofs.Unchanged.{versions_rise, views_stay}
use Rattle.hash_ring.specs.Places.{PlacesValue, after_add}
use Rattle.hash_ring.specs.Ring.{sorted_ring}
use Rattle.hash_ring.proofs.Lawful.{ring_stays}
use Rattle.directory_rules.specs.Event.{Event}
use Rattle.directory_rules.specs.State.{World}
use Rattle.directory_rules.specs.Happens.{after_joining, counted, happens}
use Rattle.directory_facts.proofs.Places.{added_view}
use Rattle.directory_facts.proofs.SeenRings.{AreViews}
use Rattle.directory_headline.proofs.Settings.{GoesOnTo}
use Rattle.directory_headline.proofs.Events.{by_event}

-- nothing changes
goes_nowhere : (f later : World) → later.settings ≡ f.settings → later.views ≡ f.views → later.places ≡ f.places → GoesOnTo f later
goes_nowhere f later settings views places =
    let version = ap (λ v. v.version) views in
    record {
      settings = settings;
      version = omega arith;
      views = λ k within. ap (λ v. view_at v k) views;
      rings = λ k within. ap (λ p. sorted_ring (view_at f.views k) p) places;
    }

-- the views change
views_go :
    (f later : World) (way : change.Change) → AreViews f.settings f.views f.places → change.after f.views way ≡ Ok later.views
    → later.settings ≡ f.settings
    → ((k : ℕ) → k ≤ f.views.version → sorted_ring (view_at f.views k) later.places ≡ sorted_ring (view_at f.views k) f.places)
    → GoesOnTo f later
views_go f later way are is settings rings =
    let accepts : Accepts f.views way later.views = record { whole = are.whole; is = is } in
    let rises = versions_rise f.views way later.views accepts in
    record {
      settings = settings;
      version = omega arith;
      views = λ k within. views_stay f.views way later.views accepts k within;
      rings = rings;
    }

pub goes_on : (f : World) → AreViews f.settings f.views f.places → (event : Event)
    → IfOk (happens f event) (λ accepted. GoesOnTo f accepted.world)
goes_on f are event = by_event f (λ accepted. GoesOnTo f accepted.world) (record {
  joins = λ silo given next added viewed placed. joined silo given next added viewed placed (change.occupant silo f.views.rows);
  leaves = λ silo is. views_go f _ (change.Leave silo) are is refl (λ k within. refl);
  dies = λ silo is. views_go f _ (change.Die silo) are is refl (λ k within. refl);
  sees = λ silo version node stepped there sight is. goes_nowhere f _ refl refl refl;
  does = λ silo input node stepped own there is. goes_nowhere f _ refl refl refl;
  delivers = λ number letter node stepped found there is. goes_nowhere f _ refl refl refl;
  loses = λ number. goes_nowhere f _ refl refl refl;
}) event
  where
    joined :
        (silo : Silo) (given : List ℕ) (next : ViewsValue) (added : PlacesValue) → change.after_join f.views silo ≡ Ok next
        → after_add f.places silo given ≡ Ok added
        → (old : Option Silo) → GoesOnTo f (counted (after_joining f silo old next added))
    joined silo given next added viewed placed None =
        views_go f _ (change.Join silo) are viewed refl
        (λ k within. ap (λ r. r.points) (ring_stays f.places silo given added placed (view_at f.views k)
        (added_view f.views f.places k are.added)))
    joined silo given next added viewed placed (Some old) =
        views_go f _ (change.Join silo) are viewed refl
        (λ k within. ap (λ r. r.points) (ring_stays f.places silo given added placed (view_at f.views k)
        (added_view f.views f.places k are.added)))
