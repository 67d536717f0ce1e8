-- Hashes lie on the circle, and so the places of silos stay what all places keep, after every run whose joins name hashes.
use Rattle.std.proofs.Common.{◌≡◌, refl, subst, ℕ, ◌<◌, List, []}
use Rattle.std.specs.Prelude.{Bool, true, false, cond, not, length, All, IsTrue, Result, Ok, Err}
use Rattle.std.specs.List.{range_with_len}
use Rattle.std.proofs.lemmas.List.Elements.{All-map}
use Rattle.silo_address.specs.Silo.{Silo, silo_cmp}
use Rattle.ring_range.specs.Range.{circle}
use Rattle.hash_ring.specs.declared.hashing.Hashing.{Hashing}
use Rattle.hash_ring.specs.declared.hashing.Hashing.TheVariants.{Sha256, Stated}
use Rattle.hash_ring.specs.Hash.{hash_text, point_text, hashed_places}
use Rattle.hash_ring.specs.Places.{PlacesValue, IsPlaces, is_point_count, has_points, places_for, is_added, with_silo, after_add}
use Rattle.hash_ring.proofs.HashesBelow.{hash_below}
use Rattle.hash_ring.proofs.StrictOrder.{sorted-from_Rising}
use Rattle.hash_ring.proofs.PlacesKept.{IsPlaces-with_silo}
use Rattle.directory_rules.specs.Settings.{Settings, AreSettings}
use Rattle.directory_rules.specs.World.{first_world}

hashed_below : (silo : Silo) (points : ℕ) → All (λ place. place < circle) (hashed_places points silo)
hashed_below silo points =
    All-map (λ place. place < circle) (λ index. hash_text (point_text silo index)) (range_with_len 0 points) (λ k d below. hash_below _)

places_below : (hashing : Hashing) (points : ℕ) (silo : Silo) (given : List ℕ) → All (λ place. place < circle) given
    → All (λ place. place < circle) (places_for hashing points silo given)
places_below Sha256 points silo given hashes = hashed_below silo points
places_below Stated points silo given hashes = hashes

-- what was accepted, and what came of it
abbrev adding : (counted some there : Bool) → PlacesValue → Result PlacesValue ℕ
adding counted some there made = cond (not counted) (Err 402) (cond (not some) (Err 403) (cond there (Err 404) (Ok made)))

accepted : (counted some there : Bool) (next made : PlacesValue) → adding counted some there made ≡ Ok next
    → IsTrue counted × IsTrue some × (made ≡ next)
accepted false some there next made is = absurd (cc)
accepted true false there next made is = absurd (cc)
accepted true true true next made is = absurd (cc)
accepted true true false next made is = (refl, refl, cc)

pub places_kept : (places : PlacesValue) (silo : Silo) (given : List ℕ) (next : PlacesValue) → All (λ place. place < circle) given
    → IsPlaces places → after_add places silo given ≡ Ok next → IsPlaces next
places_kept places silo given next hashes kept is =
    let fits = accepted (is_point_count places.hashing (length given)) (has_points places.hashing (length given)) (is_added places silo) next (with_silo places silo given) is in
    subst IsPlaces fits.2
    (IsPlaces-with_silo places silo given (places_for places.hashing places.points silo given) kept fits.0 fits.1 refl
    (places_below places.hashing places.points silo given hashes))

-- before the first join
pub first_places : (settings : Settings) → AreSettings settings → IsPlaces (first_world settings).places
first_places settings is = record {
  points_above = is.points_above;
  points_below = is.points_within;
  in_order = sorted-from_Rising silo_cmp [] tt;
  each = λ silo list found. absurd (cc);
}
