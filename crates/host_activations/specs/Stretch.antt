-- A stretch of hashes, from one up to another, not over 0: in the order of hashed counts it stands between two bounds.
use Rattle.std.specs.Prelude.{ℕ, nat_lt, List, if◌then◌else◌, slice_get}
use Rattle.std.specs.List.{filter_map}
use Rattle.std.specs.declared.ops.Bound.{Bound}
use Rattle.std.specs.declared.ops.Bound.TheVariants.{Excluded, Unbounded}
use Rattle.ring_range.specs.Range.{circle}
use Rattle.silo_address.specs.Grain.{Grain}
use Rattle.directory_rules.specs.declared.Held.{Held}
use Rattle.host_activations.specs.declared.by_hash.HashedCount.{HashedCount}

-- what no hashed count with that hash or a higher one is below
abbrev pub first_at : ℕ → HashedCount
first_at hash = record { hash = hash; count = 0 }

-- what is above all hashed counts with lower hashes; nothing where the hash is above all hashes
abbrev pub end_at : ℕ → Bound HashedCount
end_at hash = if nat_lt hash circle then Excluded (first_at hash) else Unbounded

-- those of the activations that are listed by their indices
abbrev pub standing_at : List (Grain × Held) → List (HashedCount × ℕ) → List (Grain × Held)
standing_at es listed = filter_map (λ e. slice_get es e.1) listed
