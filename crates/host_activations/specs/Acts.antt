-- What is outstanding, as acts, which each request asks of the owner of its grain's hash.
use Rattle.std.specs.Prelude.{ℕ, List, Option, Some, option_and_then}
use Rattle.std.specs.List.{filter_map}
use Rattle.std.specs.Option.{option_map}
use Rattle.std.specs.Map.{lookup}
use Rattle.std.specs.BTreeMap.{is_at}
use Rattle.silo_address.specs.Silo.{Silo}
use Rattle.silo_address.specs.Grain.{Grain, grain_cmp}
use Rattle.directory_rules.specs.declared.Act.{Act}
use Rattle.directory_rules.specs.declared.Act.TheVariants as act
use Rattle.directory_rules.specs.declared.Held.{Held}
use Rattle.directory_rules.specs.Host.{act_in, new_host}
use Rattle.host_activations.specs.declared.asked.OutstandingRequest.{OutstandingRequest}
use Rattle.host_activations.specs.declared.asked.OutstandingRequest.TheVariants.{Activation, Find}

-- what a request of the silo asks: the rule's act of an activation, or a find
abbrev pub act_for : Silo → List (Grain × Held) → OutstandingRequest → Option Act
act_for silo held (Activation grain) = option_and_then (λ h. option_map (λ e. e.1) (act_in h.phase (new_host silo) grain h)) (lookup (is_at (grain_cmp grain)) held)
act_for silo held (Find grain) = Some (act.Find grain)

-- the requests as acts, under their numbers
abbrev pub acts_in : Silo → List (Grain × Held) → List (ℕ × OutstandingRequest) → List (ℕ × Act)
acts_in silo held outstanding = filter_map (λ e. option_map (λ act. (e.0, act)) (act_for silo held e.1)) outstanding
