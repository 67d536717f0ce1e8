-- What a renewal of a host makes.
use Rattle.std.specs.Prelude.{ℕ, List, Bool, false, if◌then◌else◌, fold, map}
use Rattle.std.specs.BTreeMap.{is_at}
use Rattle.silo_address.specs.Grain.{Grain, grain_cmp}
use Rattle.directory_rules.specs.declared.Act.{Act}
use Rattle.directory_rules.specs.declared.Act.TheVariants as act
use Rattle.directory_rules.specs.declared.Held.{Held}
use Rattle.directory_rules.specs.State.{Host}
use Rattle.directory_rules.specs.Host.{outstanding, renewed}
use Rattle.host_activations.specs.Numbers.{phase_under}
use Rattle.host_activations.specs.declared.asked.OutstandingRequest.{OutstandingRequest}
use Rattle.host_activations.specs.declared.asked.OutstandingRequest.TheVariants.{Activation, Find}

-- what an act asks: the request of its grain's activation, or where the grain is
abbrev pub asked_by : Act → OutstandingRequest
asked_by (act.Register entry previous) = Activation entry.grain
asked_by (act.Deregister entry) = Activation entry.grain
asked_by (act.Find grain) = Find grain

-- all that the host has outstanding once it is renewed, under the new numbers
abbrev pub renewal_of : Host → List (ℕ × OutstandingRequest)
renewal_of host = map (λ e. (e.0, asked_by e.1)) (outstanding (renewed host))

-- the activation, its request under this number, if it has one
abbrev pub held_as : ℕ → Held → Held
held_as number held = record held { phase = phase_under number held.phase }

-- whether it is the request of the grain's activation
abbrev pub is_request_of : Grain → OutstandingRequest → Bool
is_request_of grain (Activation asking) = is_at (grain_cmp asking) grain
is_request_of grain (Find wanted) = false

-- the activations, that of the request under its number
abbrev pub with_number : List (Grain × Held) → ℕ × OutstandingRequest → List (Grain × Held)
with_number held e = map (λ x. (x.0, if is_request_of x.0 e.1 then held_as e.0 x.1 else x.1)) held

-- the activations, those of all these requests under their numbers
abbrev pub with_numbers : List (ℕ × OutstandingRequest) → List (Grain × Held) → List (Grain × Held)
with_numbers outstanding held = fold with_number held outstanding
