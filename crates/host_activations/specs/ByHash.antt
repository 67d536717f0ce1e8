-- The activations in order of hash: under the hash of each one's grain and its count, the index at which it stands.
use Rattle.std.specs.Prelude.{◌≡◌, ◌↔◌, ℕ, List, Some, map, slice_get}
use Rattle.std.specs.Map.{keys_of, lookup}
use Rattle.std.specs.BTreeMap.{is_at}
use Rattle.std.specs.Option.{option_map}
use Rattle.std.specs.Ordering.{nat_cmp, on, then_cmp}
use Rattle.std.specs.declared.cmp.Ordering.{Ordering}
use Rattle.silo_address.specs.Grain.{Grain}
use Rattle.hash_ring.specs.declared.Hashing.{Hashing}
use Rattle.hash_ring.specs.Hash.{hash_grain}
use Rattle.directory_rules.specs.declared.Held.{Held}
use Rattle.host_activations.specs.Begun.{AreBegun}
use Rattle.host_activations.specs.UnderWay.{under_way_in}
use Rattle.host_activations.specs.declared.under_way.UnderWay.{UnderWay}
use Rattle.host_activations.specs.declared.by_hash.HashedCount.{HashedCount}

-- by hash, then count
abbrev pub hashed_count_cmp : HashedCount → HashedCount → Ordering
hashed_count_cmp = then_cmp (on (λ k. k.hash) nat_cmp) (on (λ k. k.count) nat_cmp)

-- the hashed count of an activation
abbrev pub key_of : Hashing → Grain × Held → HashedCount
key_of hashing e = record { hash = hash_grain hashing e.0; count = e.1.count }

-- what stands under a hashed count is the index of an activation that has it
abbrev pub IsUnder : Hashing → List (Grain × Held) → HashedCount × ℕ → Type 0
IsUnder hashing es x = option_map (key_of hashing) (slice_get es x.1) ≡ Some x.0

-- under a hashed count is the index of the activation that has it, and nothing where none has it
abbrev pub AreByHash : Hashing → List (Grain × Held) → List (HashedCount × ℕ) → Type 0
AreByHash hashing es by_hash =
    (key : HashedCount) (index : ℕ) → lookup (is_at (hashed_count_cmp key)) by_hash ≡ Some index ↔ option_map (key_of hashing) (slice_get es index) ≡ Some key

-- the hashes of the activations' grains
abbrev pub hashes_of : Hashing → List (Grain × Held) → List ℕ
hashes_of hashing es = map (hash_grain hashing) (keys_of es)

-- what the fields of activations keep
pub record AreKept (hashing : Hashing) (next_count : ℕ) (es : List (Grain × Held)) (counts : UnderWay) (hashes : List ℕ) (hashed : List (HashedCount × ℕ)) : Type 0 where
  pub begun : AreBegun next_count es
  pub under_way : counts ≡ under_way_in es
  pub are_hashes : hashes ≡ hashes_of hashing es
  pub by_hash : AreByHash hashing es hashed
