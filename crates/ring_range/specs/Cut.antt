-- A range cut at places: its hashes in parts, each of which begins at the range's start or at one of the places.
use Rattle.std.specs.Prelude.{◌≡◌, ℕ, ◌<◌, ◌==◌, ◌&&◌, ◌⊎◌, nat_lt, if◌then◌else◌, List, [], ◌∷◌, fold, count_by, All, Contains}
use Rattle.std.specs.Ordering.{nat_cmp}
use Rattle.std.specs.BTreeSet.{insert_key}
use Rattle.ring_range.specs.Range.{Range, EachHash, distance, ahead, holds, part_of}

-- the steps at which the range is cut, with one more place: a place outside the range, or at its start, cuts nothing
abbrev pub with_cut : Range → List ℕ → ℕ → List ℕ
with_cut range steps place =
    let step = distance range.start place in
    if nat_lt 0 step && nat_lt step range.size then insert_key nat_cmp steps step else steps

-- how many steps from the range's start each cut comes, each once and in order
abbrev pub cut_steps : Range → List ℕ → List ℕ
cut_steps range places = fold (with_cut range) [] places

-- the parts between one cut and the next, from `from` steps after the range's start to its end
abbrev pub parts_between : Range → ℕ → List ℕ → List Range
parts_between range from [] = part_of range from range.size ∷ []
parts_between range from (step ∷ steps) = part_of range from step ∷ parts_between range step steps

-- the parts of a range that is cut at the places; a range without a hash has none
unfoldable pub cut_parts : Range → List ℕ → List Range
cut_parts range places = if range.size == 0 then [] else parts_between range 0 (cut_steps range places)

-- the first part begins at the place, and each later one where the one before it ends
abbrev pub FollowOn : ℕ → List Range → Type 0
FollowOn place [] = Unit {0}
FollowOn place (part ∷ parts) = (part.start ≡ place) × FollowOn (ahead part.start part.size) parts

-- the place lies in the part, and isn't its start
abbrev pub IsInside : Range → ℕ → Type 0
IsInside part place = (0 < distance part.start place) × (distance part.start place < part.size)

-- the parts are the range, cut at the places
pub record IsCut (range : Range) (places : List ℕ) (parts : List Range) : Type 0 where
  -- each hash of the range is in just one part, and any other in none
  pub once : EachHash (λ hash. count_by (λ part. holds part hash) parts ≡ (if holds range hash then 1 else 0))
  pub present : All (λ part. 0 < part.size) parts
  pub in_order : FollowOn range.start parts
  pub begins : All (λ part. (part.start ≡ range.start) ⊎ Contains places part.start) parts
  pub uncut : All (λ part. All (λ place. ¬ (IsInside part place)) places) parts
