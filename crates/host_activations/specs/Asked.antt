-- What is outstanding, by number: the one list of a host's requests, beside the list of its activations.
use Rattle.std.specs.Prelude.{◌≡◌, ℕ, List, Option, Some, None}
use Rattle.std.specs.List.{filter_map}
use Rattle.std.specs.Map.{lookup}
use Rattle.std.specs.BTreeMap.{is_at}
use Rattle.std.specs.Ordering.{nat_cmp}
use Rattle.std.specs.Option.{option_map}
use Rattle.silo_address.specs.Grain.{Grain}
use Rattle.directory_rules.specs.declared.Held.{Held}
use Rattle.host_activations.specs.declared.asked.OutstandingRequest.{OutstandingRequest}
use Rattle.host_activations.specs.declared.asked.OutstandingRequest.TheVariants.{Activation, Find}
use Rattle.host_activations.specs.Numbers.{number_of}

-- what is outstanding under the number
abbrev pub asked_under : ℕ → List (ℕ × OutstandingRequest) → Option OutstandingRequest
asked_under number outstanding = lookup (is_at (nat_cmp number)) outstanding

-- the grain that a find asks for
abbrev pub find_in : OutstandingRequest → Option Grain
find_in (Activation grain) = None
find_in (Find grain) = Some grain

-- the finds, under their numbers
abbrev pub finds_in : List (ℕ × OutstandingRequest) → List (ℕ × Grain)
finds_in outstanding = filter_map (λ e. option_map (λ grain. (e.0, grain)) (find_in e.1)) outstanding

-- the request of each activation stands under its number, and no other one of an activation stands there
pub record AreAsked (held : List (Grain × Held)) (outstanding : List (ℕ × OutstandingRequest)) : Type 0 where
  pub there : (grain : Grain) (number : ℕ) → number_of grain held ≡ Some number → asked_under number outstanding ≡ Some (Activation grain)
  pub only : (grain : Grain) (number : ℕ) → asked_under number outstanding ≡ Some (Activation grain) → number_of grain held ≡ Some number
