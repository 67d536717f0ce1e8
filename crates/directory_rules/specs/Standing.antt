-- Standings: in which order reports tell what is firm in ranges. The ranges are laid end to end, in the order of their list.
use Rattle.std.specs.Prelude.{ℕ, ◌+◌, ◌&&◌, Bool, true, if◌then◌else◌, List, [], ◌∷◌, Option, Some, None, fold}
use Rattle.std.specs.Ordering.{nat_cmp, on, then_cmp, is_lt}
use Rattle.std.specs.Map.{values_of}
use Rattle.std.specs.BTreeMap.{insert_entry}
use Rattle.std.specs.declared.cmp.Ordering.{Ordering}
use Rattle.silo_address.specs.Grain.{Grain, grain_cmp}
use Rattle.silo_address.specs.declared.Entry.{Entry}
use Rattle.ring_range.specs.Range.{Range, holds, distance}

-- how many hashes of the ranges come before this one; all of them, where none of the ranges has it
abbrev pub steps_to : List Range → (hash : ℕ) → ℕ
steps_to [] hash = 0
steps_to (range ∷ ranges) hash = if holds range hash then distance range.start hash else range.size + steps_to ranges hash

-- `hash` says how grains are hashed
module _ (hash : Grain → ℕ) (ranges : List Range) where
  -- grains by where their hashes stand, and of one hash in their own order
  abbrev pub standing_cmp : Grain → Grain → Ordering
  standing_cmp = then_cmp (on (λ grain. steps_to ranges (hash grain)) nat_cmp) grain_cmp

  -- whether the grain stands behind that one; each stands behind none
  abbrev pub stands_behind : Option Grain → Grain → Bool
  stands_behind None grain = true
  stands_behind (Some after) grain = is_lt (standing_cmp after grain)

  -- whether the entries stand behind that grain, and each behind the one before it
  abbrev pub rise_behind : Option Grain → List Entry → Bool
  rise_behind after [] = true
  rise_behind after (entry ∷ entries) = stands_behind after entry.grain && rise_behind (Some entry.grain) entries

  -- entries of different grains in the order in which these stand
  abbrev pub as_they_stand : List Entry → List Entry
  as_they_stand entries = values_of (fold (λ table entry. insert_entry standing_cmp table entry.grain entry) [] entries)

-- the last grain of the entries; where there are none, the one behind which they would stand
abbrev pub last_grain : Option Grain → List Entry → Option Grain
last_grain after [] = after
last_grain after (entry ∷ entries) = last_grain (Some entry.grain) entries
