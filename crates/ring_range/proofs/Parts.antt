-- A part of a range, told by the steps from the range's start.
use Rattle.std.proofs.Common.{◌≡◌, ℕ, ◌-◌, ◌<◌, ◌≤◌, ◌&&◌, nat_lt, nat_le, refl, sym, ◌∙◌, ap, subst, arith, inl, inr}
use Rattle.std.proofs.lemmas.Bool.{cases_lt, lt-ltb, le-ltb}
use Rattle.std.proofs.lemmas.Bool.Decides.{nat_tests}
use Rattle.ring_range.specs.Range.{circle, Range, IsRange, holds, distance, ahead, part_of, nothing_of}
use Rattle.ring_range.proofs.Circle.{ahead-lt}

abbrev pub range_at : ℕ → ℕ → Range
range_at start size = record { start = start; size = size }

pub part_some : (range : Range) (from to : ℕ) → from < to → part_of range from to ≡ range_at (ahead range.start from) (to - from)
part_some range from to lt = rw (lt-ltb from to lt) refl

pub part_none : (range : Range) (from to : ℕ) → to ≤ from → part_of range from to ≡ nothing_of range
part_none range from to le = rw (le-ltb from to le) refl

pub IsRange-part : (range : Range) (from to : ℕ) → IsRange range → to ≤ range.size → IsRange (part_of range from to)
IsRange-part range from to ok within =
    elim (cases_lt from to) [
      | inl lt ↦ subst IsRange (sym (part_some range from to lt))
          (record {
            start_below = ahead-lt range.start from ok.start_below (omega (arith, ok.size_within));
            size_within = omega
                (arith, ok.size_within);
          })
      | inr le ↦ subst IsRange (sym (part_none range from to le)) (record { start_below = ok.start_below; size_within = omega arith })
    ]

-- the hashes of a part are those at its steps
some_holds : (range : Range) (from to hash : ℕ) → IsRange range → to ≤ range.size → hash < circle → from < to
    → holds (range_at (ahead range.start from) (to - from)) hash
    ≡ (nat_le from (distance range.start hash) && nat_lt (distance range.start hash) to)
some_holds range from to hash ok within h lt = grind (arith, nat_tests)

none_holds : (from to steps : ℕ) → to ≤ from → nat_lt steps 0 ≡ (nat_le from steps && nat_lt steps to)
none_holds from to steps le = grind (arith, nat_tests)

pub holds-part : (range : Range) (from to hash : ℕ) → IsRange range → to ≤ range.size → hash < circle
    → holds (part_of range from to) hash ≡ (nat_le from (distance range.start hash) && nat_lt (distance range.start hash) to)
holds-part range from to hash ok within h =
    elim (cases_lt from to) [
      | inl lt ↦ ap (λ r. holds r hash) (part_some range from to lt)
          ∙ some_holds range from to hash ok within h lt
      | inr le ↦ ap (λ r. holds r hash) (part_none range from to le)
          ∙ none_holds from to (distance range.start hash) le
    ]

-- the parts' sizes, and where one without a hash is told
pub size-part : (range : Range) (from to : ℕ) → (part_of range from to).size ≡ to - from
size-part range from to =
    elim (cases_lt from to) [
      | inl lt ↦ ap (λ (r : Range). r.size) (part_some range from to lt)
      | inr le ↦ ap (λ (r : Range). r.size)
          (part_none range from to le) ∙ none_left from to le
    ]
  where
    none_left : (from to : ℕ) → to ≤ from → 0 ≡ to - from
    none_left from to le = omega arith

pub start-part : (range : Range) (from to : ℕ) → from < to → (part_of range from to).start ≡ ahead range.start from
start-part range from to lt = ap (λ (r : Range). r.start) (part_some range from to lt)

pub absent-part : (range : Range) (from to : ℕ) → (part_of range from to).size ≡ 0 → (part_of range from to).start ≡ range.start
absent-part range from to none =
    elim (cases_lt from to) [
      | inl lt ↦ absurd (omega (arith, size-part range from to))
      | inr le ↦ ap (λ (r : Range). r.start)
          (part_none range from to le)
    ]
