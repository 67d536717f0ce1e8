-- What the fields of a host keep.
use Rattle.std.specs.Prelude.{◌≡◌, ℕ, ◌<◌, List, Some}
use Rattle.std.specs.Ordering.{nat_cmp}
use Rattle.std.specs.List.{IsDistinct}
use Rattle.std.specs.List.Sorted.{IsStrictlySortedBy}
use Rattle.std.specs.Map.{keys_of}
use Rattle.silo_address.specs.Grain.{Grain, grain_eq}
use Rattle.directory_rules.specs.declared.Held.{Held}
use Rattle.host_activations.specs.Begun.{IsNext}
use Rattle.host_activations.specs.declared.asked.OutstandingRequest.{OutstandingRequest}
use Rattle.host_activations.specs.Asked.{AreAsked, asked_under}

-- the activations and what is outstanding agree, and all numbers lie below the next one
pub record AreHeld (next_number : ℕ) (held : List (Grain × Held)) (outstanding : List (ℕ × OutstandingRequest)) : Type 0 where
  -- each grain has one activation
  pub apart : IsDistinct grain_eq (keys_of held)
  pub in_order : IsStrictlySortedBy nat_cmp (keys_of outstanding)
  pub asked : AreAsked held outstanding
  pub below : (number : ℕ) (asked : OutstandingRequest) → asked_under number outstanding ≡ Some asked → number < next_number

-- what every host keeps
pub record IsHost (next_number : ℕ) (held : List (Grain × Held)) (outstanding : List (ℕ × OutstandingRequest)) : Type 0 where
  pub number : IsNext next_number
  pub are_held : AreHeld next_number held outstanding
