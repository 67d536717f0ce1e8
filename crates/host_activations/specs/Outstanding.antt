-- All that a host has outstanding, by number, and the finds among it by grain.
use Rattle.std.specs.Prelude.{◌≡◌, ◌↔◌, ℕ, ◌<◌, ◌^◌, List, length, filter, not, Bool, true, false, Option, Some, None, is_some}
use Rattle.std.specs.Map.{keys_of, lookup}
use Rattle.std.specs.BTreeMap.{is_at}
use Rattle.std.specs.List.Sorted.{IsStrictlySortedBy}
use Rattle.std.specs.Ordering.{nat_cmp, on, then_cmp}
use Rattle.std.specs.declared.cmp.Ordering.{Ordering}
use Rattle.silo_address.specs.Grain.{Grain, grain_cmp, grain_eq}
use Rattle.host_activations.specs.declared.asked.OutstandingRequest.{OutstandingRequest}
use Rattle.host_activations.specs.declared.asked.OutstandingRequest.TheVariants.{Activation, Find}
use Rattle.host_activations.specs.declared.outstanding.by_grain.FindKey.{FindKey}
use Rattle.host_activations.specs.Asked.{asked_under, finds_in}

-- as a host sees it: the requests under their numbers, in order
pub record OutstandingValue : Type 0 where
  pub entries : List (ℕ × OutstandingRequest)

-- the grain that a request is about
abbrev pub grain_asked : OutstandingRequest → Grain
grain_asked (Activation grain) = grain
grain_asked (Find grain) = grain

-- the requests about the grain
abbrev pub about_grain : Grain → List (ℕ × OutstandingRequest) → List (ℕ × OutstandingRequest)
about_grain grain outstanding = filter (λ e. grain_eq (grain_asked e.1) grain) outstanding

-- and those about others
abbrev pub about_others : Grain → List (ℕ × OutstandingRequest) → List (ℕ × OutstandingRequest)
about_others grain outstanding = filter (λ e. not (grain_eq (grain_asked e.1) grain)) outstanding

-- the number is that of the request that the grain's activation has, if it has one
abbrev pub IsOwn : Option ℕ → Grain → List (ℕ × OutstandingRequest) → Type 0
IsOwn own grain outstanding = (number : ℕ) → (own ≡ Some number) ↔ (asked_under number outstanding ≡ Some (Activation grain))

-- all numbers are below this one
abbrev pub AreAllBelow : ℕ → List (ℕ × OutstandingRequest) → Type 0
AreAllBelow next outstanding = (number : ℕ) (asked : OutstandingRequest) → asked_under number outstanding ≡ Some asked → number < next

-- ---- Finds by grain.
-- by grain, then number
abbrev pub find_key_cmp : FindKey → FindKey → Ordering
find_key_cmp = then_cmp (on (λ k. k.grain) grain_cmp) (on (λ k. k.number) nat_cmp)

-- what no find of the grain is below
abbrev pub first_of : Grain → FindKey
first_of grain = record { grain = grain; number = 0 }

-- what none is above
abbrev pub last_of : Grain → FindKey
last_of grain = record { grain = grain; number = 18446744073709551615 }

-- whether that is a find of the grain
abbrev pub is_find_of : Grain → Option OutstandingRequest → Bool
is_find_of grain None = false
is_find_of grain (Some (Activation its)) = false
is_find_of grain (Some (Find its)) = grain_eq its grain

-- each find is there under its grain and its number, and nothing else is
pub record AreIndexed (outstanding : List (ℕ × OutstandingRequest)) (finds : List (FindKey × Unit {0})) : Type 0 where
  pub in_order : IsStrictlySortedBy nat_cmp (keys_of outstanding)
  pub by_grain : IsStrictlySortedBy find_key_cmp (keys_of finds)
  pub found : (key : FindKey) → is_some (lookup (is_at (find_key_cmp key)) finds) ≡ is_find_of key.grain (asked_under key.number outstanding)
  pub counted : length finds ≡ length (finds_in outstanding)
  pub within : (key : FindKey) → is_some (lookup (is_at (find_key_cmp key)) finds) ≡ true → key.number < 2 ^ 64
