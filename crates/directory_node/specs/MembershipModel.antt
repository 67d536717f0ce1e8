-- How the fields of the code's membership are the rule's, and the numbers by which its refusals are told.
use Rattle.std.specs.Prelude.{◌≡◌, ℕ, ◌==◌, ◌||◌, nat_lt, not, if◌then◌else◌, IfNone, IsOk, List, length, Option, None, Some, Result, Ok, Err}
use Rattle.silo_address.specs.Silo.{Silo}
use Rattle.membership_view.specs.declared.Status.{Status}
use Rattle.membership_view.specs.declared.Status.TheVariants.{Active, Leaving, Dead}
use Rattle.hash_ring.specs.declared.Hashing.{Hashing}
use Rattle.hash_ring.specs.Places.{PlacesValue, has_points, is_point_count}
use Rattle.directory_rules.specs.Settings.{Settings}
use Rattle.membership_view.specs.Refusal.{views_error_number}
use Rattle.hash_ring.specs.Numbers.{ring_error_number}
use Rattle.directory_rules.specs.Membership.{Listed, Membership, placed}
use Rattle.directory_node.specs.declared.membership.Membership.TheInside.{Inside}
use Rattle.directory_node.specs.declared.membership.ChangeRefusal.{ChangeRefusal}
use Rattle.directory_node.specs.declared.membership.ChangeRefusal.TheVariants.{Views, Ring, OutOfMemory}

abbrev pub membership_of : Inside → Membership
membership_of m = record { views = m.views; places = m.places }

-- a refusal's number; out of memory has none
abbrev pub change_refusal_number : ChangeRefusal → Option ℕ
change_refusal_number (Views refusal) = views_error_number refusal
change_refusal_number (Ring refusal) = ring_error_number refusal
change_refusal_number OutOfMemory = None

-- a refusal that has no number is out of memory, told as just that
abbrev pub IsNumberedUnlessMemory : ChangeRefusal → Type 0
IsNumberedUnlessMemory refusal = IfNone (change_refusal_number refusal) (refusal ≡ OutOfMemory)

-- ---- Places that are stated for a silo.

-- by which number so many are refused where silos are hashed so, whatever the silo is: 402, then 403; none where they aren't
abbrev pub count_refused : Settings → Hashing → (stated : ℕ) → Option ℕ
count_refused settings hashing stated =
    if nat_lt settings.places stated || not (is_point_count hashing stated) then Some 402
    else (if not (has_points hashing stated) then Some 403 else None)

-- so of a silo that a view lists, by its status there: for one that is Dead none may be stated
abbrev pub count_refused_by : Status → Settings → Hashing → (stated : ℕ) → Option ℕ
count_refused_by Active settings hashing stated = count_refused settings hashing stated
count_refused_by Leaving settings hashing stated = count_refused settings hashing stated
count_refused_by Dead settings hashing stated = if stated == 0 then None else Some 402

-- ---- Silos that a view lists.

-- by its status, whether its places are such as it may have, or the number by which they are refused
abbrev pub places_by : Status → Settings → PlacesValue → Silo → (stated : List ℕ) → Result PlacesValue ℕ
places_by Active settings places silo stated = placed settings places silo stated
places_by Leaving settings places silo stated = placed settings places silo stated
places_by Dead settings places silo stated = if length stated == 0 then Ok places else Err 402

-- so those of a silo that is listed
abbrev pub places_of_listed : Settings → PlacesValue → Listed → Result PlacesValue ℕ
places_of_listed settings places one = places_by one.status settings places one.silo one.places

abbrev pub MayBeListed : Settings → PlacesValue → Listed → Type 0
MayBeListed settings places one = IsOk (places_of_listed settings places one)

abbrev pub RefusesPlaces : Settings → PlacesValue → Listed → (number : ℕ) → Type 0
RefusesPlaces settings places one number = places_of_listed settings places one ≡ Err number
