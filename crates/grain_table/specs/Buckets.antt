-- How a map keeps its entries: in buckets that stand one behind another, cut at rising hashes.
use Rattle.std.specs.Prelude.{◌≡◌, ℕ, ◌<◌, ◌≤◌, Bool, false, List, [], ◌∷◌, ◌++◌, length}
use Rattle.std.specs.List.{AllByRecursion}
use Rattle.std.specs.BTreeMap.{is_at}
use Rattle.std.specs.Ordering.{is_gt}
use Rattle.silo_address.specs.Grain.{IsGrain, grain_text}
use Rattle.silo_address.specs.ReadGrain.{grain_at_slash}
use Rattle.silo_address.specs.declared.ActivationId.{ActivationId}
use Rattle.grain_table.specs.declared.hashed_grain.HashedGrain.{HashedGrain}
use Rattle.grain_table.specs.Hashed.{Hashed, hashed_cmp}

-- the text of a grain
pub record IsGrainText (text : List ℕ) : Type 0 where
  pub is_grain : IsGrain (grain_at_slash text)
  pub spelled : text ≡ grain_text (grain_at_slash text)

-- whether the entry stands before the key
abbrev pub is_before : HashedGrain → HashedGrain × ActivationId → Bool
is_before key e = is_gt (hashed_cmp key e.0)

-- whether the first of these entries stands under the key
abbrev pub is_first : HashedGrain → Hashed → Bool
is_first key [] = false
is_first key (e ∷ es) = is_at (hashed_cmp key) e.0

-- the entries of all buckets
abbrev pub joined : List Hashed → Hashed
joined [] = []
joined (bucket ∷ buckets) = bucket ++ joined buckets

-- there is at most one bucket more than cuts; what stands before a cut has lower hashes, what stands behind it none
abbrev pub AreCut : List ℕ → List Hashed → Type 0
AreCut [] buckets = length buckets ≤ 1
AreCut (cut ∷ cuts) [] = ⊥
AreCut (cut ∷ cuts) (bucket ∷ buckets) =
    AllByRecursion (λ e. e.0.hash < cut) bucket × AllByRecursion (λ c. cut ≤ c) cuts × AllByRecursion (λ e. cut ≤ e.0.hash) (joined buckets) × AreCut cuts buckets

-- what every map keeps, with its count
pub record AreBuckets (cuts : List ℕ) (buckets : List Hashed) (len : ℕ) : Type 0 where
  pub cut : AreCut cuts buckets
  pub counted : len ≡ length (joined buckets)

-- a hash that the bucket may be cut at: no lower than what is no higher than all of it, no higher than what is above all of it
pub record IsAmid (hash : ℕ) (bucket : Hashed) : Type 0 where
  pub above : (low : ℕ) → AllByRecursion (λ e. low ≤ e.0.hash) bucket → low ≤ hash
  pub below : (high : ℕ) → AllByRecursion (λ e. e.0.hash < high) bucket → hash ≤ high

-- a bucket was cut at the hash into two
pub record IsCutAt (hash : ℕ) (bucket front back : Hashed) : Type 0 where
  pub whole : front ++ back ≡ bucket
  pub lower : AllByRecursion (λ e. e.0.hash < hash) front
  pub upper : AllByRecursion (λ e. hash ≤ e.0.hash) back
