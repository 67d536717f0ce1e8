-- How many places are stated for a silo, and what is refused by it.
use Rattle.std.proofs.Common.{◌≡◌, ap, refl, ℕ, List, length}
use Rattle.std.specs.Prelude.{Bool, true, false, cond, not, ◌||◌, ◌==◌, nat_lt, IsOk, is_ok, Option, Some, None, Result, Ok, Err}
use Rattle.silo_address.specs.Silo.{Silo}
use Rattle.membership_view.specs.declared.Status.{Status}
use Rattle.membership_view.specs.declared.Status.TheVariants.{Active, Leaving, Dead}
use Rattle.hash_ring.specs.Places.{PlacesValue, has_points, is_added, is_point_count, with_silo}
use Rattle.directory_rules.specs.Settings.{Settings}
use Rattle.directory_rules.specs.Membership.{Listed, placed}
use Rattle.directory_node.specs.MembershipModel.{MayBeListed, RefusesPlaces, count_refused, count_refused_by, places_by}

-- ---- by four tests
abbrev judged : (over counted some added : Bool) → PlacesValue → Result PlacesValue ℕ
judged over counted some added made =
    cond over (Err 402) (cond (not counted) (Err 402) (cond (not some) (Err 403) (cond added (Err 404) (Ok made))))

abbrev by_count : (over counted some : Bool) → Option ℕ
by_count over counted some = cond (over || not counted) (Some 402) (cond (not some) (Some 403) None)

judged_ok : (over counted some added : Bool) (made : PlacesValue) → by_count over counted some ≡ None → added ≡ false
    → judged over counted some added made ≡ Ok made
judged_ok true counted some added made fit new = absurd (cc (fit))
judged_ok false false some added made fit new = absurd (cc (fit))
judged_ok false true false added made fit new = absurd (cc (fit))
judged_ok false true true added made fit new = ap (λ b. cond b (Err 404) (Ok made)) new

judged_by : (over counted some added : Bool) (made : PlacesValue) (number : ℕ) → by_count over counted some ≡ Some number
    → judged over counted some added made ≡ Err number
judged_by true counted some added made number is = let same : 402 ≡ number = cc (is) in ap (λ n. Err n) same
judged_by false false some added made number is = let same : 402 ≡ number = cc (is) in ap (λ n. Err n) same
judged_by false true false added made number is = let same : 403 ≡ number = cc (is) in ap (λ n. Err n) same
judged_by false true true added made number is = absurd (cc (is))

judged_is : (over counted some added : Bool) (made new : PlacesValue) → judged over counted some added made ≡ Ok new → new ≡ made
judged_is true counted some added made new is = absurd (cc (is))
judged_is false false some added made new is = absurd (cc (is))
judged_is false true false added made new is = absurd (cc (is))
judged_is false true true true made new is = absurd (cc (is))
judged_is false true true false made new is = cc (is)

-- ---- the places of a silo that joins
module _ (settings : Settings) (places : PlacesValue) (silo : Silo) (stated : List ℕ) where
  pub placed_new : count_refused settings places.hashing (length stated) ≡ None → is_added places silo ≡ false
      → placed settings places silo stated ≡ Ok (with_silo places silo stated)
  placed_new =
      judged_ok (nat_lt settings.places (length stated)) (is_point_count places.hashing (length stated)) (has_points places.hashing (length stated))
      (is_added places silo) (with_silo places silo stated)

  pub not_placed : (number : ℕ) → count_refused settings places.hashing (length stated) ≡ Some number
      → placed settings places silo stated ≡ Err number
  not_placed =
      judged_by (nat_lt settings.places (length stated)) (is_point_count places.hashing (length stated)) (has_points places.hashing (length stated))
      (is_added places silo) (with_silo places silo stated)

  pub placed_is : (new : PlacesValue) → placed settings places silo stated ≡ Ok new → new ≡ with_silo places silo stated
  placed_is =
      judged_is (nat_lt settings.places (length stated)) (is_point_count places.hashing (length stated)) (has_points places.hashing (length stated))
      (is_added places silo) (with_silo places silo stated)

-- ---- and of one that is listed
none_stated : (none : Bool) (places : PlacesValue) → cond {A = Option ℕ} none None (Some 402) ≡ None
    → IsOk (cond {A = Result PlacesValue ℕ} none (Ok places) (Err 402))
none_stated true places fit = refl
none_stated false places fit = absurd (cc (fit))

some_stated : (none : Bool) (places : PlacesValue) (number : ℕ) → cond {A = Option ℕ} none None (Some 402) ≡ Some number
    → cond {A = Result PlacesValue ℕ} none (Ok places) (Err 402) ≡ Err number
some_stated true places number is = absurd (cc (is))
some_stated false places number is = let same : 402 ≡ number = cc (is) in ap (λ n. Err n) same

pub listed_new : (settings : Settings) (places : PlacesValue) (one : Listed)
    → count_refused_by one.status settings places.hashing (length one.places) ≡ None → is_added places one.silo ≡ false
    → MayBeListed settings places one
listed_new settings places one = by one.status
  where
    by : (status : Status) → count_refused_by status settings places.hashing (length one.places) ≡ None → is_added places one.silo ≡ false
        → IsOk (places_by status settings places one.silo one.places)
    by Active fit new = ap (λ (r : Result PlacesValue ℕ). is_ok r) (placed_new settings places one.silo one.places fit new)
    by Leaving fit new = ap (λ (r : Result PlacesValue ℕ). is_ok r) (placed_new settings places one.silo one.places fit new)
    by Dead fit new = none_stated (length one.places == 0) places fit

pub not_listed : (settings : Settings) (places : PlacesValue) (one : Listed) (number : ℕ)
    → count_refused_by one.status settings places.hashing (length one.places) ≡ Some number → RefusesPlaces settings places one number
not_listed settings places one number = by one.status
  where
    by : (status : Status) → count_refused_by status settings places.hashing (length one.places) ≡ Some number
        → places_by status settings places one.silo one.places ≡ Err number
    by Active is = not_placed settings places one.silo one.places number is
    by Leaving is = not_placed settings places one.silo one.places number is
    by Dead is = some_stated (length one.places == 0) places number is
