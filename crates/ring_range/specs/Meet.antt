-- Where two ranges meet: the hashes in both. They are one range, or none, or two ranges, where each of the two goes on
-- past the other's start.
use Rattle.std.specs.Prelude.{◌≡◌, ℕ, ◌+◌, ◌-◌, ◌<◌, ◌≤◌, ◌==◌, ◌&&◌, ◌↔◌, nat_lt, min, if◌then◌else◌, List, [], ◌∷◌, length, filter, All, Any, AllPairs}
use Rattle.ring_range.specs.Range.{circle, Range, IsRange, Holds, distance, nothing_of, part_of}

-- the common hashes from this range's start on, which the other has after it has gone round to that start
abbrev pub meet_at_start : Range → Range → Range
meet_at_start this other = part_of this 0 (min this.size ((distance this.start other.start + other.size) - circle))

-- the common hashes from the other range's start on
abbrev pub meet_further_on : Range → Range → Range
meet_further_on this other =
    let begin = distance this.start other.start in part_of this begin (min this.size (begin + other.size))

-- both of two parts, one that has a hash before one that has none
abbrev pub present_first : Range → Range → List Range
present_first one two = if one.size == 0 then two ∷ one ∷ [] else one ∷ two ∷ []

-- the common hashes in two parts; a full circle meets a range in that range
unfoldable pub meet_of : Range → Range → List Range
meet_of this other =
    if other.size == circle then this ∷ nothing_of this ∷ []
    else (if (this.size == circle) && nat_lt 0 other.size then other ∷ nothing_of this ∷ []
    else present_first (meet_at_start this other) (meet_further_on this other))

-- the parts have the hashes that are in both ranges, and no others
abbrev pub AreCommon : Range → Range → List Range → Type 0
AreCommon one other parts = (hash : ℕ) → Any (λ part. Holds part hash) parts ↔ (Holds one hash × Holds other hash)

-- no hash is in two of the parts
abbrev pub AreApart : List Range → Type 0
AreApart parts = AllPairs (λ part later. (hash : ℕ) → ¬ (Holds part hash × Holds later hash)) parts

-- the parts that have a hash
abbrev pub present : List Range → List Range
present parts = filter (λ part. nat_lt 0 part.size) parts

-- the parts that have a hash are as few as any ranges with the same hashes
abbrev pub AreFewest : Range → Range → List Range → Type 0
AreFewest one other parts =
    (ranges : List Range) → All IsRange ranges → AreCommon one other ranges → length (present parts) ≤ length ranges

-- of the parts that have a hash those that begin nearer, going forward, to the range's start come first
abbrev pub AreNearerFirst : Range → List Range → Type 0
AreNearerFirst this parts =
    AllPairs (λ part later. distance this.start part.start < distance this.start later.start) (present parts)

-- a part without a hash is told at the range's start
abbrev pub AreAbsentAtStart : Range → List Range → Type 0
AreAbsentAtStart this parts = All (λ part. part.size ≡ 0 → part.start ≡ this.start) parts
