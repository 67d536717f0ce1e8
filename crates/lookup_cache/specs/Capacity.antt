-- What every cache keeps.
use Rattle.std.specs.Prelude.{ℕ, ◌<◌, ◌≤◌, length}
use Rattle.std.specs.List.{IsDistinct}
use Rattle.std.specs.Map.{keys_of}
use Rattle.silo_address.specs.Grain.{grain_eq}
use Rattle.directory_rules.specs.State.{Cache}

-- how many hints a cache may be made for: 1 to 65536
abbrev pub IsCapacity : ℕ → Type 0
IsCapacity capacity = (0 < capacity) × (capacity ≤ 65536)

-- no more hints than that, and of each grain at most one
pub record IsCache (cache : Cache) : Type 0 where
  pub capacity : IsCapacity cache.capacity
  pub within : length cache.pairs ≤ cache.capacity
  pub distinct : IsDistinct grain_eq (keys_of cache.pairs)
