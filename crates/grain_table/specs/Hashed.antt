-- How a table keeps its entries: activations under hashed grains, in order of hash, then the grain's text.
use Rattle.std.specs.Prelude.{⊤, ◌≡◌, ◌<◌, Bool, true, List, [], ◌∷◌, Option, MatchOption}
use Rattle.std.specs.List.{AllByRecursion, list_any}
use Rattle.std.specs.List.Sorted.{IsStrictlySortedBy}
use Rattle.std.specs.Map.{keys_of}
use Rattle.std.specs.BTreeMap.{is_at}
use Rattle.std.specs.Cmp.Lexicographic.{slice_cmp}
use Rattle.std.specs.Ordering.{nat_cmp, on, then_cmp}
use Rattle.std.specs.declared.cmp.Ordering.{Ordering}
use Rattle.silo_address.specs.Silo.{Silo, silo_cmp}
use Rattle.silo_address.specs.Grain.{Grain, IsGrain, grain_cmp, grain_text}
use Rattle.silo_address.specs.declared.ActivationId.{ActivationId}
use Rattle.silo_address.specs.declared.Entry.{Entry}
use Rattle.ring_range.specs.Range.{circle}
use Rattle.hash_ring.specs.declared.Hashing.{Hashing}
use Rattle.hash_ring.specs.Hash.{hash_grain}
use Rattle.directory_rules.specs.declared.act.Request.{Request}
use Rattle.directory_rules.specs.Host.{grain_of}
use Rattle.directory_rules.specs.State.{Table}
use Rattle.directory_rules.specs.Table.{with_entry}
use Rattle.grain_table.specs.declared.hashed_grain.HashedGrain.{HashedGrain}

-- by text: no two grains have the same, and what else has is told by kind and key
abbrev pub text_cmp : Grain → Grain → Ordering
text_cmp = then_cmp (on grain_text (slice_cmp nat_cmp)) grain_cmp

-- by hash, then the grain's text
abbrev pub hashed_cmp : HashedGrain → HashedGrain → Ordering
hashed_cmp = then_cmp (on (λ k. k.hash) nat_cmp) (on (λ k. k.grain) text_cmp)

-- activations under hashed grains
abbrev pub Hashed : Type 0
Hashed = List (HashedGrain × ActivationId)

-- the grain with its hash
abbrev pub key_of : Hashing → Grain → HashedGrain
key_of hashing grain = record { hash = hash_grain hashing grain; grain = grain }

-- what every key of a table keeps: it is a grain with its hash
pub record IsKeyOf (hashing : Hashing) (key : HashedGrain) : Type 0 where
  pub hash_is : key.hash ≡ hash_grain hashing key.grain
  pub below : key.hash < circle
  pub is_grain : IsGrain key.grain

-- what a request keeps beside which a hashing stands: its hash is that of its grain by this hashing
abbrev pub IsHashedBy : Option Hashing → Request → Type 0
IsHashedBy known_by request = MatchOption known_by ⊤ (λ hashing. request.hash ≡ hash_grain hashing (grain_of request.act))

-- what the entries of every table keep
pub record AreHashed (hashing : Hashing) (hashed : Hashed) : Type 0 where
  pub in_order : IsStrictlySortedBy hashed_cmp (keys_of hashed)
  pub keys : AllByRecursion (IsKeyOf hashing) (keys_of hashed)

-- whether the silo is one of these
abbrev pub is_among : List Silo → Silo → Bool
is_among silos silo = list_any (is_at (silo_cmp silo)) silos

-- what every table keeps: each entry's silo is among those that it has noted
pub record AreKept (hashing : Hashing) (silos : List Silo) (hashed : Hashed) : Type 0 where
  pub are : AreHashed hashing hashed
  pub on : AllByRecursion (λ e. is_among silos e.1.silo ≡ true) hashed

-- the entry of an activation that stands under its hashed grain
abbrev pub entry_under : HashedGrain × ActivationId → Entry
entry_under e = record { grain = e.0.grain; activation = e.1 }

-- the entries under their grains, in the order of the grains
abbrev pub by_grain : Hashed → Table
by_grain [] = []
by_grain (e ∷ es) = with_entry (by_grain es) (entry_under e)
