-- The places of the silos' points, which a silo gets when it is added and keeps.
use Rattle.std.specs.Prelude.{◌≡◌, ℕ, ◌<◌, ◌≤◌, ◌==◌, not, nat_lt, nat_le, if◌then◌else◌, Bool, true, List, [], length, All, Option, Some, is_some, Result, Ok, Err}
use Rattle.std.specs.Option.{unwrap_or}
use Rattle.std.specs.List.Sorted.{IsStrictlySortedBy}
use Rattle.std.specs.Map.{lookup, keys_of}
use Rattle.std.specs.BTreeMap.{is_at, insert_entry}
use Rattle.silo_address.specs.Silo.{Silo, silo_cmp}
use Rattle.ring_range.specs.Range.{circle}
use Rattle.hash_ring.specs.declared.hashing.Hashing.{Hashing}
use Rattle.hash_ring.specs.declared.hashing.Hashing.TheVariants.{Sha256, Stated}
use Rattle.hash_ring.specs.Hash.{hashed_places}

-- how a cluster hashes, how many points a silo has under Sha256, and the places of each silo that was added, by address
pub record PlacesValue : Type 0 where
  pub hashing : Hashing
  pub points : ℕ
  pub entries : List (Silo × List ℕ)

-- the most points of a silo
abbrev pub most_points : ℕ
most_points = 128

-- the places of a silo's points, by their index; none where the silo was not added
abbrev pub places_of : PlacesValue → Silo → Option (List ℕ)
places_of places silo = lookup (is_at (silo_cmp silo)) places.entries

-- whether a silo was added
abbrev pub is_added : PlacesValue → Silo → Bool
is_added places silo = is_some (places_of places silo)

-- the places named when a silo was added: where places are hashed none is named
abbrev pub named_places : Hashing → PlacesValue → Silo → List ℕ
named_places Sha256 places silo = []
named_places Stated places silo = unwrap_or (places_of places silo) []

-- whether a silo may be given so many places: under Sha256 none, since they are hashed
abbrev pub is_point_count : Hashing → ℕ → Bool
is_point_count Sha256 given = given == 0
is_point_count Stated given = nat_le given most_points

-- whether the places that have to be given are there
abbrev pub has_points : Hashing → ℕ → Bool
has_points Sha256 given = true
has_points Stated given = nat_lt 0 given

-- the places that a silo gets
abbrev pub places_for : Hashing → ℕ → Silo → List ℕ → List ℕ
places_for Sha256 points silo given = hashed_places points silo
places_for Stated points silo given = given

-- the places after a silo was added
abbrev pub with_silo : PlacesValue → Silo → List ℕ → PlacesValue
with_silo places silo given =
    record places { entries = insert_entry silo_cmp places.entries silo (places_for places.hashing places.points silo given) }

-- a silo is added with the places that it is given: 402 where they are too many or none may be given, then 403 where one has to
-- be given, then 404 where the silo was added before
abbrev pub after_add : PlacesValue → Silo → List ℕ → Result PlacesValue ℕ
after_add places silo given =
    if not (is_point_count places.hashing (length given)) then Err 402
    else (if not (has_points places.hashing (length given)) then Err 403
    else (if is_added places silo then Err 404
    else Ok (with_silo places silo given)))

-- places that a silo may have: 1 to 128 hashes, under Sha256 those of the point texts
pub record ArePlaces (places : PlacesValue) (silo : Silo) (list : List ℕ) : Type 0 where
  pub some : 0 < length list
  pub most : length list ≤ most_points
  pub hashes : All (λ place. place < circle) list
  pub hashed : places.hashing ≡ Sha256 → list ≡ hashed_places places.points silo

-- what the places keep at every moment
pub record IsPlaces (places : PlacesValue) : Type 0 where
  pub points_above : 0 < places.points
  pub points_below : places.points ≤ most_points
  -- each silo stands once, by address
  pub in_order : IsStrictlySortedBy silo_cmp (keys_of places.entries)
  pub each : (silo : Silo) (list : List ℕ) → places_of places silo ≡ Some list → ArePlaces places silo list
