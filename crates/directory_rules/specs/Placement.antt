-- Placement: on which silo a new activation is to begin.
use Rattle.std.specs.Prelude.{ℕ, ◌%◌, ◌==◌, nat_le, if◌then◌else◌, List, [], ◌∷◌, Option, Some, None, length}
use Rattle.std.specs.Option.{unwrap_or}
use Rattle.std.specs.List.{slice_get}
use Rattle.std.specs.Map.{lookup}
use Rattle.std.specs.BTreeMap.{is_at}
use Rattle.silo_address.specs.Silo.{Silo, silo_cmp}
use Rattle.membership_view.specs.View.{ViewValue, active_silos}
use Rattle.hash_ring.specs.Ring.{is_active_in}
use Rattle.directory_rules.specs.declared.policy.Policy.{Policy}
use Rattle.directory_rules.specs.declared.policy.Policy.TheVariants.{PreferLocal, HashBased, LeastHeld}

-- of the Active silos, by address, the one at the hash modulo their number
abbrev pub by_hash : ViewValue → (hash : ℕ) → Option Silo
by_hash view hash =
    if length (active_silos view) == 0 then None else slice_get (active_silos view) (hash % length (active_silos view))

-- how many activations a silo has, 0 where that isn't said
abbrev pub count_of : List (Silo × ℕ) → Silo → ℕ
count_of counts silo = unwrap_or (lookup (is_at (silo_cmp silo)) counts) 0

-- the silo, unless another one has fewer
abbrev pub fewer_of : List (Silo × ℕ) → Silo → Option Silo → Silo
fewer_of counts silo None = silo
fewer_of counts silo (Some other) = if nat_le (count_of counts silo) (count_of counts other) then silo else other

-- the silo with the fewest activations, and of several the first
abbrev pub by_least : List (Silo × ℕ) → List Silo → Option Silo
by_least counts [] = None
by_least counts (silo ∷ silos) = Some (fewer_of counts silo (by_least counts silos))

-- the silo that the policy chooses, by a view, the silo that asks, the grain's hash and how many activations silos have
abbrev pub silo_for : Policy → ViewValue → (local : Silo) → (hash : ℕ) → (counts : List (Silo × ℕ)) → Option Silo
silo_for PreferLocal view local hash counts = if is_active_in view local then Some local else by_hash view hash
silo_for HashBased view local hash counts = by_hash view hash
silo_for LeastHeld view local hash counts = by_least counts (active_silos view)
