-- Places to which a silo was added and from which it was taken out again are as they were.
use Rattle.std.proofs.Common.{◌≡◌, ℕ, List, length, cond, Bool, true, false, not, Option, Some, None, is_some, Result, Ok, Err, refl, sym, ◌∙◌, ap}
use Rattle.std.specs.Map.{remove_entry}
use Rattle.std.specs.BTreeMap.{is_at}
use Rattle.texts.proofs.Entries.{remove-insert_entry}
use Rattle.silo_address.specs.Silo.{Silo, silo_cmp}
use Rattle.silo_address.proofs.Order.{silo_cmp_total}
use Rattle.hash_ring.specs.Places.{PlacesValue, after_add, has_points, is_added, is_point_count, places_for, places_of, with_silo}

none_of : {X : Type 0} (found : Option X) → is_some found ≡ false → found ≡ None
none_of None none = refl
none_of (Some x) none = cc

-- an addition that isn't refused is one of a new silo
accepted_is : (counted some there : Bool) (made next : PlacesValue)
    → ◌≡◌ {A = Result PlacesValue ℕ} (cond (not counted) (Err 402) (cond (not some) (Err 403) (cond there (Err 404) (Ok made)))) (Ok next)
    → (made ≡ next) × (there ≡ false)
accepted_is false some there made next is = absurd (cc (is))
accepted_is true false there made next is = absurd (cc (is))
accepted_is true true true made next is = absurd (cc (is))
accepted_is true true false made next is = (cc (is), refl)

pub places_back : (old mid new : PlacesValue) (silo : Silo) (stated : List ℕ) → after_add old silo stated ≡ Ok mid
    → new ≡ record mid { entries = remove_entry (is_at (silo_cmp silo)) mid.entries } → new ≡ old
places_back old mid new silo stated added out =
    let are = accepted_is (is_point_count old.hashing (length stated)) (has_points old.hashing (length stated)) (is_added old silo) (with_silo old silo stated) mid added in
    out
    ∙ ap (λ (p : PlacesValue). record p { entries = remove_entry (is_at (silo_cmp silo)) p.entries }) (sym are.0)
    ∙ ap (λ (l : List (Silo × List ℕ)). record old { entries = l })
    (remove-insert_entry silo_cmp_total silo (places_for old.hashing old.points silo stated) old.entries
    (none_of (places_of old silo) are.1))
