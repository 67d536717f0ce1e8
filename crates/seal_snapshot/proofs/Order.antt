-- The order of a shelf's snapshots.
use Rattle.std.proofs.Common.{◌≡◌, ◌⊎◌, ℕ, zero, suc, ◌<◌, Bool, true, cond, List, [], ◌∷◌, ◌++◌, length, get_or, ◌∙◌, ap, inl, inr, arith, ltb-true, lt-ltb, eqb-true, eq-eqb}
use Rattle.std.specs.List.{All, filter}
use Rattle.std.specs.List.Sorted.{IsPartitionedBy}
use Rattle.std.specs.Prelude.{nat_lt, ◌==◌, ◌&&◌, ◌||◌}
use Rattle.std.proofs.lemmas.Bool.{and_parts, or_cases, cases_eq, or_right, and_from}
use Rattle.std.proofs.lemmas.List.Elements.{All-filter, All-append}
use Rattle.directory_rules.specs.State.{Snapshot}
use Rattle.directory_rules.proofs.Cases.{on_bool}
use Rattle.hash_ring.proofs.Members.{In-left, In-right, All-of, All-from_each}
use Rattle.seal_snapshot.specs.Shelf.{AreInOrder, comes_before, is_before}

-- what the test says
abbrev IsBefore : ℕ → ℕ → Snapshot → Type 0
IsBefore version start s = (s.version < version) ⊎ ((s.version ≡ version) × (s.range.start < start))

pub of_before : (version start : ℕ) (s : Snapshot) → is_before version start s ≡ true → IsBefore version start s
of_before version start s before = by (or_cases (nat_lt s.version version) ((s.version == version) && nat_lt s.range.start start) before)
  where
    by : (nat_lt s.version version ≡ true) ⊎ (((s.version == version) && nat_lt s.range.start start) ≡ true) → IsBefore version start s
    by (inl less) = inl (ltb-true s.version version less)
    by (inr more) =
        let parts = and_parts (s.version == version) (nat_lt s.range.start start) more in
        inr (eqb-true s.version version parts.0, ltb-true s.range.start start parts.1)

pub before_of : (version start : ℕ) (s : Snapshot) → IsBefore version start s → is_before version start s ≡ true
before_of version start s (inl less) = ap (λ b. b || ((s.version == version) && nat_lt s.range.start start)) (lt-ltb s.version version less)
before_of version start s (inr more) =
    or_right (nat_lt s.version version) ((s.version == version) && nat_lt s.range.start start)
    (and_from (s.version == version) (nat_lt s.range.start start) (eq-eqb s.version version more.0) (lt-ltb s.range.start start more.1))

-- what comes before what is before a place is before it too
pub before_both : (version start : ℕ) (a b : Snapshot) → comes_before a b ≡ true → is_before version start b ≡ true
    → is_before version start a ≡ true
before_both version start a b one other =
    before_of version start a (by (of_before b.version b.range.start a one) (of_before version start b other))
  where
    by : IsBefore b.version b.range.start a → IsBefore version start b → IsBefore version start a
    by (inl less) (inl below) = inl (omega arith)
    by (inl less) (inr same) = inl (let e = same.0 in omega arith)
    by (inr tied) (inl below) = inl (let e = tied.0 in omega arith)
    by (inr tied) (inr same) = inr (tied.0 ∙ same.0, (let e = tied.1 in let f = same.1 in omega arith))

-- nothing comes before what has its place
pub apart : (a b : Snapshot) → comes_before a b ≡ true → a.version ≡ b.version → a.range.start ≡ b.range.start → ⊥
apart a b before version start = by (of_before b.version b.range.start a before)
  where
    by : IsBefore b.version b.range.start a → ⊥
    by (inl less) = omega arith
    by (inr more) = let e = more.1 in omega arith

-- by places
pub ordered_at : (shelf : List Snapshot) (i k : ℕ) (d : Snapshot) → AreInOrder shelf → i < k → k < length shelf
    → comes_before (get_or shelf i d) (get_or shelf k d) ≡ true
ordered_at [] i k d order above within = absurd (omega arith)
ordered_at (s ∷ shelf) i zero d order above within = absurd (omega arith)
ordered_at (s ∷ shelf) zero (suc k) d order above within = order.0 k d (omega arith)
ordered_at (s ∷ shelf) (suc i) (suc k) d order above within = ordered_at shelf i k d order.1 (omega arith) (omega arith)

-- what is before a place comes first
pub partitioned : (version start : ℕ) (shelf : List Snapshot) → AreInOrder shelf → IsPartitionedBy (is_before version start) shelf
partitioned version start shelf order i j d least within before = by (cases_eq i j)
  where
    by : (i ≡ j) ⊎ (i ≡ j → ⊥) → is_before version start (get_or shelf i d) ≡ true
    by (inl same) = ap (λ k. is_before version start (get_or shelf k d)) same ∙ before
    by (inr other) =
        before_both version start (get_or shelf i d) (get_or shelf j d) (ordered_at shelf i j d order (least_below other) within) before
      where
        least_below : (i ≡ j → ⊥) → i < j
        least_below other = omega (arith, other)

-- ---- what is kept of snapshots in order is in order
pub in_order-filter : (p : Snapshot → Bool) (shelf : List Snapshot) → AreInOrder shelf → AreInOrder (filter p shelf)
in_order-filter p [] order = tt
in_order-filter p (s ∷ shelf) order =
    on_bool (λ b. AreInOrder (cond b (s ∷ filter p shelf) (filter p shelf))) (p s)
    (λ t. (All-filter p (λ other. comes_before s other ≡ true) shelf order.0, in_order-filter p shelf order.1))
    (λ f. in_order-filter p shelf order.1)

pub in_order-kept : (p : Snapshot → Bool) (shelf behind : List Snapshot) → AreInOrder (shelf ++ behind)
    → AreInOrder (filter p shelf ++ behind)
in_order-kept p [] behind order = order
in_order-kept p (s ∷ shelf) behind order =
    on_bool (λ b. AreInOrder (cond b (s ∷ filter p shelf) (filter p shelf) ++ behind)) (p s)
    (λ t. (all, in_order-kept p shelf behind order.1))
    (λ f. in_order-kept p shelf behind order.1)
  where
    Behind : Snapshot → Type 0
    Behind other = comes_before s other ≡ true

    all : All Behind (filter p shelf ++ behind)
    all = All-append Behind (filter p shelf) behind
        (All-filter p Behind shelf (All-from_each Behind shelf
        (λ other there. All-of Behind (shelf ++ behind) other order.0 (In-left other shelf behind there))))
        (All-from_each Behind behind (λ other there. All-of Behind (shelf ++ behind) other order.0 (In-right other shelf behind there)))
