-- The numbers of the requests that activations have outstanding.
use Rattle.std.specs.Prelude.{ℕ, List, Option, Some, None, option_and_then}
use Rattle.std.specs.Map.{lookup}
use Rattle.std.specs.BTreeMap.{is_at}
use Rattle.silo_address.specs.Grain.{Grain, grain_cmp}
use Rattle.directory_rules.specs.declared.Held.{Held}
use Rattle.directory_rules.specs.declared.Phase.{Phase}
use Rattle.directory_rules.specs.declared.Phase.TheVariants.{Asking, Firm, Closing}

-- the number of the request that the phase has outstanding
abbrev pub number_in : Phase → Option ℕ
number_in (Asking number) = Some number
number_in Firm = None
number_in (Closing number) = Some number

-- the phase with its request, if it has one, under this number
abbrev pub phase_under : ℕ → Phase → Phase
phase_under number (Asking old) = Asking number
phase_under number Firm = Firm
phase_under number (Closing old) = Closing number

-- the number of the request that the grain's activation has outstanding
abbrev pub number_of : Grain → List (Grain × Held) → Option ℕ
number_of grain held = option_and_then (λ h. number_in h.phase) (lookup (is_at (grain_cmp grain)) held)
