-- When lists of snapshots in order, one behind the other, are in order.
use Rattle.std.proofs.Common.{◌≡◌, ℕ, suc, ◌+◌, ◌-◌, ◌<◌, true, List, [], ◌∷◌, ◌++◌, length, get_or, refl, sym, ◌∙◌, ap, subst, arith, length-append}
use Rattle.std.specs.List.{All}
use Rattle.std.proofs.lemmas.List.{get_or_append_left, get_or-append_right}
use Rattle.std.proofs.lemmas.List.Elements.{All-cons, All-nil, All-weaker}
use Rattle.directory_rules.specs.State.{Snapshot}
use Rattle.seal_snapshot.specs.Shelf.{AreInOrder, Meets, comes_before}
use Rattle.seal_snapshot.proofs.Order.{before_both, ordered_at}

-- one that comes before the first comes before all
before_all : (a b : Snapshot) (behind : List Snapshot) → comes_before a b ≡ true → All (λ s. comes_before b s ≡ true) behind
    → All (λ s. comes_before a s ≡ true) (b ∷ behind)
before_all a b behind before all =
    All-cons (λ s. comes_before a s ≡ true) b behind before
    (All-weaker (λ s. comes_before b s ≡ true) (λ s. comes_before a s ≡ true)
    (λ s later. before_both s.version s.range.start a b before later) behind all)

-- each before the next one
pub in_order-from_next : (shelf : List Snapshot) →
    ((k : ℕ) (d : Snapshot) → k + 1 < length shelf → comes_before (get_or shelf k d) (get_or shelf (k + 1) d) ≡ true) → AreInOrder shelf
in_order-from_next [] next = tt
in_order-from_next (s ∷ []) next = (All-nil (λ other. comes_before s other ≡ true), tt)
in_order-from_next (s ∷ t ∷ shelf) next =
    let rest = in_order-from_next (t ∷ shelf) (λ k d within.
    let e : suc k + 1 ≡ suc (k + 1) = omega arith in
    subst (λ n. comes_before (get_or (t ∷ shelf) k d) (get_or (s ∷ t ∷ shelf) n d) ≡ true) e (next (suc k) d (omega arith))) in
    (before_all s t shelf (next 0 s (omega arith)) rest.0, rest)

-- two lists in order that meet
pub in_order-joined : (front behind : List Snapshot) → AreInOrder front → AreInOrder behind → Meets front behind
    → AreInOrder (front ++ behind)
in_order-joined [] behind first second meets = second
in_order-joined (s ∷ []) [] first second meets = (All-nil (λ other. comes_before s other ≡ true), tt)
in_order-joined (s ∷ []) (b ∷ behind) first second meets = (before_all s b behind (meets (omega arith) (omega arith) s) second.0, second)
in_order-joined (s ∷ t ∷ front) behind first second meets =
    let rest = in_order-joined (t ∷ front) behind first.1 second (λ some others d.
    let e : length (s ∷ t ∷ front) - 1 ≡ suc (length (t ∷ front) - 1) = omega arith in
    subst (λ n. comes_before (get_or (s ∷ t ∷ front) n d) (get_or behind 0 d) ≡ true) e (meets (omega arith) others d)) in
    (before_all s t (front ++ behind) (first.0 0 s (omega arith)) rest.0, rest)

-- and the other way round
pub in_order-behind : (front behind : List Snapshot) → AreInOrder (front ++ behind) → AreInOrder behind
in_order-behind [] behind order = order
in_order-behind (s ∷ front) behind order = in_order-behind front behind order.1

pub meets-from_order : (front behind : List Snapshot) → AreInOrder (front ++ behind) → Meets front behind
meets-from_order front behind order some others d =
    let long = length-append front behind in
    let none : length front - length front ≡ 0 = omega arith in
    let first : get_or (front ++ behind) (length front) d ≡ get_or behind 0 d =
    get_or-append_right front behind (length front) (length front) d refl (omega arith) ∙ ap (λ k. get_or behind k d) none in
    let last : get_or (front ++ behind) (length front - 1) d ≡ get_or front (length front - 1) d = get_or_append_left front behind d (length front - 1) (omega arith) in
    sym (ap (λ s. comes_before s (get_or (front ++ behind) (length front) d)) last
    ∙ ap (λ s. comes_before (get_or front (length front - 1) d) s) first)
    ∙ ordered_at (front ++ behind) (length front - 1) (length front) d order (omega arith) (omega arith)
