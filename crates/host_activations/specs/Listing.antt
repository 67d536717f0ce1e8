-- How what is asked for of the firm activations is listed before it is sorted: the first of it, up to a bound.
use Rattle.std.specs.Prelude.{◌≡◌, ◌⊎◌, ◌<◌, ◌≤◌, ◌&&◌, ◌++◌, ◌∷◌, [], ⊤, nat_le, nat_lt, Bool, true, ℕ, List, Option, Some, None, filter, length, map, if◌then◌else◌, option_and_then}
use Rattle.std.specs.BTreeMap.{is_at}
use Rattle.std.specs.List.{AllByRecursion, IsDistinct}
use Rattle.std.specs.Map.{keys_of, lookup}
use Rattle.std.specs.Ordering.{is_lt, nat_cmp, ordering_then}
use Rattle.silo_address.specs.Silo.{Silo}
use Rattle.silo_address.specs.Grain.{Grain, grain_cmp, grain_eq}
use Rattle.silo_address.specs.declared.Entry.{Entry}
use Rattle.ring_range.specs.Range.{Range}
use Rattle.hash_ring.specs.declared.Hashing.{Hashing}
use Rattle.hash_ring.specs.Hash.{hash_grain}
use Rattle.directory_rules.specs.declared.Held.{Held}
use Rattle.directory_rules.specs.Standing.{stands_behind, steps_to}
use Rattle.host_activations.specs.Firm.{is_told}
use Rattle.host_activations.specs.Stretch.{standing_at}
use Rattle.host_activations.specs.declared.activations.page.PageAsked.{PageAsked}
use Rattle.host_activations.specs.declared.by_hash.HashedCount.{HashedCount}

-- ---- Where a grain stands in the range.
-- how many hashes of the range come before the grain's
abbrev pub steps_of : PageAsked → Grain → ℕ
steps_of asked grain = steps_to (asked.range ∷ []) (hash_grain asked.hashing grain)

-- and before that of the grain behind which others stand, if there is one
abbrev pub steps_before : PageAsked → Option Grain → ℕ
steps_before asked None = 0
steps_before asked (Some after) = steps_of asked after

-- whether a grain stands behind that one, where so many hashes come before each
abbrev pub is_behind : Option Grain → (steps_after steps : ℕ) → Grain → Bool
is_behind None steps_after steps grain = true
is_behind (Some after) steps_after steps grain = is_lt (ordering_then (nat_cmp steps_after steps) (grain_cmp after grain))

-- ---- What is listed.
-- whether an activation is asked for: it is told of the range, and stands behind the grain
abbrev pub is_asked_for : PageAsked → Grain × Held → Bool
is_asked_for asked e =
    is_told asked.hashing asked.range e && stands_behind (hash_grain asked.hashing) (asked.range ∷ []) asked.after e.0

-- an activation as it is listed: how many hashes of the range come before its grain's, the grain, and its count
abbrev pub as_listed : PageAsked → Grain × Held → ℕ × Grain × ℕ
as_listed asked e = (steps_of asked e.0, e.0, e.1.count)

-- those of these activations that are asked for, as they are listed
abbrev pub asked_for : PageAsked → List (Grain × Held) → List (ℕ × Grain × ℕ)
asked_for asked es = map (as_listed asked) (filter (is_asked_for asked) es)

-- the entry of an activation on the silo
abbrev pub entry_counted : Silo → Grain → (count : ℕ) → Entry
entry_counted silo grain count = record { grain = grain; activation = record { silo = silo; count = count } }

-- of one that is listed
abbrev pub entry_listed : Silo → ℕ × Grain × ℕ → Entry
entry_listed silo x = entry_counted silo x.1 x.2

-- ---- The first of it.
-- whether it is asked for and stands before the bound
abbrev pub is_first : PageAsked → (bound : ℕ) → Grain × Held → Bool
is_first asked bound e = is_asked_for asked e && nat_lt (steps_of asked e.0) bound

-- the grain's activation, if it passes the test
abbrev pub passing : (Grain × Held → Bool) → Grain → Option Held → Option Held
passing test grain held = option_and_then (λ h. if test (grain, h) then Some h else None) held

-- just those are listed that are asked for and stand before a bound, each once; and they are more than a page, or all
pub record AreFirst (asked : PageAsked) (es : List (Grain × Held)) (firm : List (ℕ × Grain × ℕ)) : Type 0 where
  pub bound : ℕ
  pub rows : List (Grain × Held)
  pub listed : firm ≡ map (as_listed asked) rows
  pub once : IsDistinct grain_eq (keys_of rows)
  pub found : (grain : Grain) → lookup (is_at (grain_cmp grain)) rows ≡ passing (is_first asked bound) grain (lookup (is_at (grain_cmp grain)) es)
  pub enough : (asked.most < length firm) ⊎ (asked.range.size ≤ bound)

-- ---- Whether there is any of it.
-- all that is firm and hashed into a range is asked for, and none of it to be told
abbrev pub all_in : Hashing → Range → PageAsked
all_in hashing range = record { hashing = hashing; range = range; after = None; most = 0 }

-- whether there is any among the first of it
abbrev pub HasAny : PageAsked → List (Grain × Held) → Bool → Type 0
HasAny asked es has = (firm : List (ℕ × Grain × ℕ)) × (AreFirst asked es firm × (has ≡ nat_lt 0 (length firm)))

-- ---- Stretch by stretch, in the order of hashes.
-- no hash is below one before it
abbrev pub RiseByHash : List (HashedCount × ℕ) → Type 0
RiseByHash [] = ⊤
RiseByHash (x ∷ xs) = AllByRecursion (λ y. x.0.hash ≤ y.0.hash) xs × RiseByHash xs

-- what stands under a hash below the bound
abbrev pub hashed_below : (bound : ℕ) → List (HashedCount × ℕ) → List (HashedCount × ℕ)
hashed_below bound hashed = filter (λ x. nat_lt x.0.hash bound) hashed

-- what stands under hashes from the first up to the bound
abbrev pub hashed_between : (first bound : ℕ) → List (HashedCount × ℕ) → List (HashedCount × ℕ)
hashed_between first bound hashed = filter (λ x. nat_le first x.0.hash && nat_lt x.0.hash bound) hashed

-- a list, and behind it what is asked for of those that stand there
abbrev pub ListsThen : PageAsked → List (Grain × Held) → (there : List (HashedCount × ℕ)) → (before new : List (ℕ × Grain × ℕ)) → Type 0
ListsThen asked es there before new = new ≡ before ++ asked_for asked (standing_at es there)

-- with all of a stretch, or with what stands there under hashes below a bound, where that makes more than a page
abbrev pub AddsFirst : PageAsked → List (Grain × Held) → (stretch : List (HashedCount × ℕ)) → (before new : List (ℕ × Grain × ℕ)) → Type 0
AddsFirst asked es stretch before new =
    ListsThen asked es stretch before new ⊎ ((bound : ℕ) × (asked.most < length new) × ListsThen asked es (hashed_below bound stretch) before new)

-- with what stands under hashes from the first up to a bound, which is the end, unless that makes more than a page
pub record AddsBetween (asked : PageAsked) (es : List (Grain × Held)) (hashed : List (HashedCount × ℕ)) (first end : ℕ) (before new : List (ℕ × Grain × ℕ)) : Type 0 where
  pub bound : ℕ
  pub within : bound ≤ end
  pub listed : ListsThen asked es (hashed_between first bound hashed) before new
  pub enough : (asked.most < length new) ⊎ (bound ≡ end)
