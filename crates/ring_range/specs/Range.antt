-- A range of hashes. The hashes stand on a circle: after the highest, 4294967295, comes 0 again. A range is some hashes
-- that follow one another there.
use Rattle.std.specs.Prelude.{◌≡◌, ℕ, ◌+◌, ◌-◌, ◌%◌, ◌<◌, ◌≤◌, ◌==◌, ◌&&◌, ◌||◌, nat_lt, nat_le, if◌then◌else◌, Bool}

-- how many hashes there are
abbrev pub circle : ℕ
circle = 4294967296

-- `size` hashes going forward from `start`
pub record Range : Type 0 where
  pub start : ℕ
  pub size : ℕ

-- what every range keeps: it begins at a hash, and has no hash twice
pub record IsRange (range : Range) : Type 0 where
  pub start_below : range.start < circle
  pub size_within : range.size ≤ circle

-- what is so of each hash, of each range, and of each two ranges
abbrev pub EachHash : (ℕ → Type 0) → Type 0
EachHash P = (hash : ℕ) → hash < circle → P hash

abbrev pub EachRange : (Range → Type 0) → Type 0
EachRange P = (range : Range) → IsRange range → P range

abbrev pub EachTwo : (Range → Range → Type 0) → Type 0
EachTwo P = EachRange (λ one. EachRange (λ other. P one other))

-- the range has the hash: it is where one comes in fewer than `size` steps forward from the start
abbrev pub Holds : Range → ℕ → Type 0
Holds range hash = (steps : ℕ) × (steps < range.size) × (hash ≡ (range.start + steps) % circle)

-- every hash of the one is in the other
abbrev pub IsWithin : Range → Range → Type 0
IsWithin inner outer = (hash : ℕ) → Holds inner hash → Holds outer hash

-- how many steps forward from a place a hash comes
abbrev pub distance : ℕ → ℕ → ℕ
distance place hash = if nat_le place hash then hash - place else (hash + circle) - place

-- the hash that is so many steps forward from a place
abbrev pub ahead : ℕ → ℕ → ℕ
ahead place steps = if nat_lt (place + steps) circle then place + steps else (place + steps) - circle

-- whether the range has the hash, for a hash of the circle
abbrev pub holds : Range → ℕ → Bool
holds range hash = nat_lt (distance range.start hash) range.size

-- whether every hash of the one is in the other: none is missing in a full circle, and otherwise the one ends before the other
abbrev pub within : Range → Range → Bool
within inner outer =
    (inner.size == 0) || (outer.size == circle) || nat_le (distance outer.start inner.start + inner.size) outer.size

-- no hash, told at the start of the range
abbrev pub nothing_of : Range → Range
nothing_of range = record { start = range.start; size = 0 }

-- of the range's hashes those that come at `from` steps or more from its start, and at fewer than `to`
abbrev pub part_of : Range → ℕ → ℕ → Range
part_of range from to =
    if nat_lt from to then record { start = ahead range.start from; size = to - from } else nothing_of range

abbrev pub range_eq : Range → Range → Bool
range_eq a b = (a.start == b.start) && (a.size == b.size)
