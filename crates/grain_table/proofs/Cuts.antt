-- Cuts rise, and tell of the hashes before and behind them.
use Rattle.std.proofs.Common.{arith, ℕ, zero, suc, ◌<◌, ◌≤◌, List, [], ◌∷◌, length, take, drop, get_or}
use Rattle.std.specs.List.{AllByRecursion}
use Rattle.std.specs.List.Sorted.{IsNonDecreasing}
use Rattle.grain_table.specs.Buckets.{AreCut, joined}
use Rattle.grain_table.specs.Hashed.{Hashed}
use Rattle.grain_table.proofs.InOrder.{all_append, all_at, all_so}

-- all have hashes from the low one on
abbrev pub AreFrom : ℕ → Hashed → Type 0
AreFrom low es = AllByRecursion (λ e. low ≤ e.0.hash) es

-- all have hashes below the high one
abbrev pub AreBelow : ℕ → Hashed → Type 0
AreBelow high es = AllByRecursion (λ e. e.0.hash < high) es

-- ---- Cuts.
pub rising : (cuts : List ℕ) (buckets : List Hashed) → AreCut cuts buckets → IsNonDecreasing cuts
rising [] buckets cut i j d le lt = absurd (omega arith)
rising (c ∷ cuts) [] cut i j d le lt = absurd cut
rising (c ∷ cuts) (b ∷ buckets) cut zero zero d le lt = omega arith
rising (c ∷ cuts) (b ∷ buckets) cut zero (suc j) d le lt = all_at (λ n. c ≤ n) cuts cut.1 j d (omega arith)
rising (c ∷ cuts) (b ∷ buckets) cut (suc i) zero d le lt = absurd (omega arith)
rising (c ∷ cuts) (b ∷ buckets) cut (suc i) (suc j) d le lt = rising cuts buckets cut.3 i j d (omega arith) (omega arith)

-- so many cuts are there, none above the hash
abbrev pub Passes : List ℕ → ℕ → ℕ → Type 0
Passes [] hash zero = Unit {0}
Passes [] hash (suc index) = ⊥
Passes (c ∷ cuts) hash zero = Unit {0}
Passes (c ∷ cuts) hash (suc index) = (c ≤ hash) × Passes cuts hash index

-- the cut at the index, if there is one, is no lower
abbrev pub Reaches : List ℕ → ℕ → ℕ → Type 0
Reaches [] high index = Unit {0}
Reaches (c ∷ cuts) high zero = high ≤ c
Reaches (c ∷ cuts) high (suc index) = Reaches cuts high index

pub passes : (cuts : List ℕ) (hash index : ℕ) → index ≤ length cuts → ((k d : ℕ) → 0 ≤ k → k < index → get_or cuts k d ≤ hash)
    → Passes cuts hash index
passes [] hash zero le each = tt
passes [] hash (suc index) le each = absurd (omega arith)
passes (c ∷ cuts) hash zero le each = tt
passes (c ∷ cuts) hash (suc index) le each =
    (each 0 c (omega arith) (omega arith), passes cuts hash index (omega arith) (λ k d low lt. each (suc k) d (omega arith) (omega arith)))

pub reaches : (cuts : List ℕ) (high index : ℕ) → ((k d : ℕ) → index ≤ k → k < length cuts → high ≤ get_or cuts k d)
    → Reaches cuts high index
reaches [] high index each = tt
reaches (c ∷ cuts) high zero each = each 0 c (omega arith) (omega arith)
reaches (c ∷ cuts) high (suc index) each = reaches cuts high index (λ k d low lt. each (suc k) d (omega arith) (omega arith))

-- ---- Hashes before a cut, and behind it.
-- the first buckets have hashes below
pub front_below : (cuts : List ℕ) (buckets : List Hashed) → AreCut cuts buckets → (hash index : ℕ) → Passes cuts hash index
    → AreBelow hash (joined (take index buckets))
front_below [] buckets cut hash zero pass = tt
front_below [] buckets cut hash (suc index) pass = absurd pass
front_below (c ∷ cuts) [] cut hash index pass = absurd cut
front_below (c ∷ cuts) (b ∷ buckets) cut hash zero pass = tt
front_below (c ∷ cuts) (b ∷ buckets) cut hash (suc index) pass =
    let up = pass.0 in
    all_append (λ e. e.0.hash < hash) b (joined (take index buckets))
    (all_so (λ e. e.0.hash < c) (λ e. e.0.hash < hash) (λ e lt. omega arith) b cut.0)
    (front_below cuts buckets cut.3 hash index pass.1)

-- and those behind the one at the index have none below
pub back_from : (cuts : List ℕ) (buckets : List Hashed) → AreCut cuts buckets → (high index : ℕ) → Reaches cuts high index
    → AreFrom high (joined (drop (suc index) buckets))
back_from [] [] cut high index reach = tt
back_from [] (b ∷ []) cut high zero reach = tt
back_from [] (b ∷ []) cut high (suc index) reach = tt
back_from [] (b ∷ other ∷ buckets) cut high index reach = absurd (omega arith)
back_from (c ∷ cuts) [] cut high index reach = absurd cut
back_from (c ∷ cuts) (b ∷ buckets) cut high zero reach =
    all_so (λ e. c ≤ e.0.hash) (λ e. high ≤ e.0.hash) (λ e le. omega arith) (joined buckets) cut.2
back_from (c ∷ cuts) (b ∷ buckets) cut high (suc index) reach = back_from cuts buckets cut.3 high index reach
