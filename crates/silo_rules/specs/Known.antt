-- Which change made a version, as the views and places tell it.
use Rattle.std.specs.Prelude.{ℕ, ◌==◌, ◌&&◌, nat_le, nat_lt, not, Bool, false, List, length, Option, Some, None}
use Rattle.std.specs.List.{list_any}
use Rattle.std.specs.Cmp.Lexicographic.{pointwise}
use Rattle.silo_address.specs.Silo.{Silo}
use Rattle.membership_view.specs.Row.{is_made_in}
use Rattle.membership_view.specs.Views.{ViewsValue, joining_version, leaving_version, dying_version}
use Rattle.hash_ring.specs.declared.hashing.Hashing.{Hashing}
use Rattle.hash_ring.specs.declared.hashing.Hashing.TheVariants.{Sha256, Stated}
use Rattle.hash_ring.specs.Places.{PlacesValue, places_of}
use Rattle.directory_rules.specs.Membership.{Change, Join, Leave, Die, Membership}

-- whether these are the places
abbrev pub are_these : Option (List ℕ) → (stated : List ℕ) → Bool
are_these None stated = false
are_these (Some places) stated = pointwise ◌==◌ places stated

-- whether these places were stated when the silo joined; none were where they are hashed
abbrev pub were_stated : Hashing → PlacesValue → Silo → (stated : List ℕ) → Bool
were_stated Sha256 places silo stated = length stated == 0
were_stated Stated places silo stated = are_these (places_of places silo) stated

-- whether some silo joined in the version
abbrev pub is_of_join : ViewsValue → ℕ → Bool
is_of_join views version = list_any (λ e. e.1.joined == version) views.rows

-- whether the version is one of those that the silo was told by the view with which it began: it doesn't know what made them
abbrev pub is_before : Membership → (version : ℕ) → Bool
is_before m version = nat_lt 0 version && nat_le version m.views.first

-- whether this change made the version, which came after those; a silo that is replaced dies by the join of another one
abbrev pub is_known : Membership → (version : ℕ) → Change → Bool
is_known m version (Join silo stated) = is_made_in version (joining_version m.views silo) && were_stated m.places.hashing m.places silo stated
is_known m version (Leave silo) = is_made_in version (leaving_version m.views silo)
is_known m version (Die silo) = is_made_in version (dying_version m.views silo) && not (is_of_join m.views version)
