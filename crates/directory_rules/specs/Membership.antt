-- Membership: the one sequence of changes, of a world or as silos are told it; what each change makes of the views and of the places on
-- the ring, and what a silo may do by it.
use Rattle.std.specs.Prelude.{ℕ, ◌==◌, ◌&&◌, nat_le, nat_lt, Bool, if◌then◌else◌, List, [], ◌∷◌, length, map, Option, Some, None, Result, Ok, Err}
use Rattle.std.specs.Option.{unwrap_or}
use Rattle.silo_address.specs.Silo.{Silo}
use Rattle.membership_view.specs.declared.status.Status.{Status}
use Rattle.membership_view.specs.declared.status.Status.TheVariants.{Active, Leaving, Dead}
use Rattle.membership_view.specs.Views.{ViewsValue, most_known, views_from, joining_version, status_at, view_at}
use Rattle.membership_view.specs.Beginning.{after_listing}
use Rattle.membership_view.specs.Changes.{after, after_join, occupant}
use Rattle.membership_view.specs.Changes as change
use Rattle.hash_ring.specs.Places.{PlacesValue, after_add, named_places}
use Rattle.directory_rules.specs.Settings.{Settings}

-- a change of membership; a silo joins with the places that are stated for it, if there are any
pub data Change : Type 0 where
  Join : Silo → (stated : List ℕ) → Change
  Leave : Silo → Change
  Die : Silo → Change

-- what changes make: the views so far, and each silo's places, as it joined; of a silo that was Dead when these views begin, none
pub record Membership : Type 0 where
  pub views : ViewsValue
  pub places : PlacesValue

-- what is known of a version before any silo is
abbrev pub membership_from : Settings → (version : ℕ) → Membership
membership_from settings version = record {
  views = views_from settings.silos version;
  places = record { hashing = settings.hashing; points = settings.points; entries = [] };
}

-- before the first change
abbrev pub first_membership : Settings → Membership
first_membership settings = membership_from settings 0

-- the places with those of a silo that joins: 402 where more are stated than the settings let, then as places refuse
abbrev pub placed : Settings → PlacesValue → Silo → (stated : List ℕ) → Result PlacesValue ℕ
placed settings places silo stated = if nat_lt settings.places (length stated) then Err 402 else after_add places silo stated

-- with these places and those views, or refused
abbrev pub with_places : Result PlacesValue ℕ → ViewsValue → Result Membership ℕ
with_places (Err number) views = Err number
with_places (Ok places) views = Ok (record { views = views; places = places })

-- with the views after a join, or refused
abbrev pub joined : Result ViewsValue ℕ → Settings → PlacesValue → Silo → (stated : List ℕ) → Result Membership ℕ
joined (Err number) settings places silo stated = Err number
joined (Ok views) settings places silo stated = with_places (placed settings places silo stated) views

-- with the views after another change, or refused
abbrev pub with_views : Result ViewsValue ℕ → PlacesValue → Result Membership ℕ
with_views (Err number) places = Err number
with_views (Ok views) places = Ok (record { views = views; places = places })

-- what a change makes, or the number by which it is refused: a join by 201, 205, 402, 403, 404; a leave by 202, 203; a death by
-- 202, 204
abbrev pub changed : Settings → Membership → Change → Result Membership ℕ
changed settings m (Join silo stated) = joined (after_join m.views silo) settings m.places silo stated
changed settings m (Leave silo) = with_views (after m.views (change.Leave silo)) m.places
changed settings m (Die silo) = with_views (after m.views (change.Die silo)) m.places

-- the older silo of its endpoint that a silo which joins replaces, if there is one that isn't Dead
abbrev pub replaced_by : Membership → Change → Option Silo
replaced_by m (Join silo stated) = occupant silo m.views.rows
replaced_by m (Leave silo) = None
replaced_by m (Die silo) = None

-- ---- What begins with a view, in place of all changes up to it.

-- a silo as a view lists it: its status there, and the places that were stated for it, if there are any
pub record Listed : Type 0 where
  pub silo : Silo
  pub status : Status
  pub places : List ℕ

-- with the views, and no places more, or refused: 402 where any are stated
abbrev pub with_no_places : Result ViewsValue ℕ → PlacesValue → (stated : List ℕ) → Result Membership ℕ
with_no_places (Err number) places stated = Err number
with_no_places (Ok views) places stated = if length stated == 0 then Ok (record { views = views; places = places }) else Err 402

-- with the views that list a silo: it gets its places as at a join, but for one that is Dead
abbrev pub listed_by : Status → Result ViewsValue ℕ → Settings → PlacesValue → Silo → (stated : List ℕ) → Result Membership ℕ
listed_by Active views settings places silo stated = joined views settings places silo stated
listed_by Leaving views settings places silo stated = joined views settings places silo stated
listed_by Dead views settings places silo stated = with_no_places views places stated

-- a silo is listed: 210, 205, then 402, 403, 404 as at a join, or 402 alone where it is Dead
abbrev pub listed : Settings → Membership → Listed → Result Membership ℕ
listed settings m one = listed_by one.status (after_listing m.views one.silo one.status) settings m.places one.silo one.places

-- and then the others, one after the other
abbrev pub listed_all : Settings → Result Membership ℕ → List Listed → Result Membership ℕ
listed_all settings (Err number) rows = Err number
listed_all settings (Ok m) [] = Ok m
listed_all settings (Ok m) (one ∷ rows) = listed_all settings (listed settings m one) rows

-- what is known by the view of a version alone, or the number by which that is refused: 210 where the version isn't one with which views
-- may begin, then as its silos are refused, the first one first
abbrev pub begun : Settings → (version : ℕ) → List Listed → Result Membership ℕ
begun settings version rows = if nat_lt version most_known then listed_all settings (Ok (membership_from settings version)) rows else Err 210

-- the places that are told of a silo of a view: those named at its join, but none once it is Dead
abbrev pub places_told : Status → PlacesValue → Silo → List ℕ
places_told Active places silo = named_places places.hashing places silo
places_told Leaving places silo = named_places places.hashing places silo
places_told Dead places silo = []

-- a silo of a view, as it is told to whoever begins with that
abbrev pub listing : PlacesValue → Silo × Status → Listed
listing places row = record { silo = row.0; status = row.1; places = places_told row.1 places row.0 }

-- the view of a version, as changes made it
abbrev pub listing_of : Membership → (version : ℕ) → List Listed
listing_of m version = map (listing m.places) (view_at m.views version).rows

-- ---- What is seen of it.

-- the version in which a silo joined
abbrev pub joined_in : Membership → Silo → ℕ
joined_in m silo = unwrap_or (joining_version m.views silo) 0

-- whether there is that view, and the silo is in it
abbrev pub is_seeable : Membership → Silo → (version : ℕ) → Bool
is_seeable m silo version = nat_le version m.views.version && nat_le (joined_in m silo) version

-- what a silo is by the last change
abbrev pub status_in : Membership → Silo → Option Status
status_in m silo = status_at m.views m.views.version silo

-- the number that bars a silo of that status from any step: 901 before its join, 902 where it is Dead
abbrev pub barred_by : Option Status → Option ℕ
barred_by None = Some 901
barred_by (Some Active) = None
barred_by (Some Leaving) = None
barred_by (Some Dead) = Some 902
