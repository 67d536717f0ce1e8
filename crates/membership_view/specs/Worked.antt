-- Worked changes: a silo joins, is started again, leaves and dies, with room for two silos ever.
use Rattle.std.specs.Prelude.{◌≡◌, [], ◌∷◌, Some, None, Ok, Err}
use Rattle.silo_address.specs.Silo.{Silo}
use Rattle.membership_view.specs.declared.status.Status.TheVariants.{Active, Leaving, Dead}
use Rattle.membership_view.specs.View.{active_silos, status_of}
use Rattle.membership_view.specs.Views.{ViewsValue, views_from, first_views, view_at, status_at}
use Rattle.membership_view.specs.Changes.{Join, Leave, Die, after, occupant}
use Rattle.membership_view.specs.Beginning.{after_listing, with_listed}

-- 10.0.0.1:1000@1
abbrev pub silo_a : Silo
silo_a = record { ip = 10 ∷ 0 ∷ 0 ∷ 1 ∷ []; port = 1000; generation = 1 }

-- 10.0.0.1:1000@2, the same endpoint started again
abbrev pub silo_a_again : Silo
silo_a_again = record { ip = 10 ∷ 0 ∷ 0 ∷ 1 ∷ []; port = 1000; generation = 2 }

-- 10.0.0.2:1000@1
abbrev pub silo_b : Silo
silo_b = record { ip = 10 ∷ 0 ∷ 0 ∷ 2 ∷ []; port = 1000; generation = 1 }

-- the views before anyone joins
abbrev pub before_all : ViewsValue
before_all = first_views 2

-- after the first has joined
abbrev pub after_first : ViewsValue
after_first = record { limit = 2; first = 0; version = 1; rows = (silo_a, record { joined = 1; left = None; dead = None }) ∷ [] }

-- after its endpoint has started again
abbrev pub after_restart : ViewsValue
after_restart = record {
  limit = 2;
  first = 0;
  version = 2;
  rows = (silo_a, record { joined = 1; left = None; dead = Some 2 }) ∷ (silo_a_again, record { joined = 2; left = None; dead = None }) ∷ [];
}

-- after that one has begun to leave
abbrev pub after_leaving : ViewsValue
after_leaving = record {
  limit = 2;
  first = 0;
  version = 3;
  rows = (silo_a, record { joined = 1; left = None; dead = Some 2 }) ∷ (silo_a_again, record { joined = 2; left = Some 3; dead = None }) ∷ [];
}

-- after it has died
abbrev pub after_death : ViewsValue
after_death = record {
  limit = 2;
  first = 0;
  version = 4;
  rows = (silo_a, record { joined = 1; left = None; dead = Some 2 }) ∷ (silo_a_again, record { joined = 2; left = Some 3; dead = Some 4 }) ∷ [];
}

-- views that begin with version 2: the first silo isn't listed, since the one that replaced it is
abbrev pub begun_later : ViewsValue
begun_later = with_listed (views_from 2 2) silo_a_again Active

-- the same change makes the same view of them
abbrev pub begun_leaving : ViewsValue
begun_leaving = record {
  limit = 2;
  first = 2;
  version = 3;
  rows = (silo_a_again, record { joined = 2; left = Some 3; dead = None }) ∷ [];
}

-- each change, each refusal, and what the views say at the end
pub record WorkedChanges : Type 0 where
  pub joins : after before_all (Join silo_a) ≡ Ok after_first
  pub replaces : occupant silo_a_again after_first.rows ≡ Some silo_a
  pub joins_again : after after_first (Join silo_a_again) ≡ Ok after_restart
  pub old_generation : after after_restart (Join silo_a) ≡ Err 201
  pub rows_full : after after_restart (Join silo_b) ≡ Err 205
  pub unknown : after after_restart (Leave silo_b) ≡ Err 202
  pub leaves : after after_restart (Leave silo_a_again) ≡ Ok after_leaving
  pub not_active : after after_leaving (Leave silo_a_again) ≡ Err 203
  pub dies : after after_leaving (Die silo_a_again) ≡ Ok after_death
  pub already_dead : after after_death (Die silo_a_again) ≡ Err 204
  pub first_view : view_at after_death 1 ≡ record { version = 1; rows = (silo_a, Active) ∷ [] }
  -- the second view doesn't list the first silo, and yet says that it is Dead
  pub second_view : view_at after_death 2 ≡ record { version = 2; rows = (silo_a_again, Active) ∷ [] }
  pub left_out : status_of (view_at after_death 2) silo_a ≡ Some Dead
  pub active : active_silos (view_at after_death 2) ≡ silo_a_again ∷ []
  pub leaving : status_at after_death 3 silo_a_again ≡ Some Leaving
  pub not_made : status_at after_death 5 silo_a_again ≡ None
  -- what begins with the second view goes on alike
  pub begins : after_listing (views_from 2 2) silo_a_again Active ≡ Ok begun_later
  pub listed_twice : after_listing begun_later silo_a Dead ≡ Err 210
  pub in_no_version : after_listing (views_from 2 0) silo_a Active ≡ Err 210
  pub no_room : after_listing (record begun_later { limit = 1 }) silo_b Active ≡ Err 205
  pub same_view : view_at begun_later 2 ≡ view_at after_death 2
  pub dead_stays_dead : after begun_later (Join silo_a) ≡ Err 201
  pub goes_on : after begun_later (Leave silo_a_again) ≡ Ok begun_leaving
  pub same_next : view_at begun_leaving 3 ≡ view_at after_leaving 3
