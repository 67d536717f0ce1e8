-- The number by which users know the refusal.
use Rattle.std.specs.Prelude.{ℕ, Option, Some, None}
use Rattle.lookup_cache.specs.declared.error.CacheError.{CacheError}
use Rattle.lookup_cache.specs.declared.error.CacheError.TheVariants.{Capacity, OutOfMemory}

-- the stated number of a refusal; out of memory has none
abbrev pub cache_error_number : CacheError → Option ℕ
cache_error_number Capacity = Some 851
cache_error_number OutOfMemory = None
