-- What the parts are where two ranges meet.
use Rattle.std.proofs.Common.{◌≡◌, ℕ, ◌+◌, ◌-◌, ◌<◌, ◌≤◌, ◌&&◌, ◌||◌, ◌⊎◌, ◌==◌, nat_lt, nat_le, min, All, Bool, true, false, cond, List, [], ◌∷◌, refl, sym, ◌∙◌, ap, arith, inl, inr}
use Rattle.std.specs.List.{list_any}
use Rattle.std.proofs.lemmas.List.Elements.{All-nil, All-cons}
use Rattle.std.proofs.lemmas.Bool.Decides.{nat_tests}
use Rattle.std.proofs.lemmas.Bool.{eqb-true}
use Rattle.ring_range.specs.Range.{circle, Range, IsRange, holds, distance, ahead, nothing_of}
use Rattle.ring_range.specs.Meet.{meet_of, meet_at_start, meet_further_on, AreCommon, AreApart, AreFewest, AreNearerFirst, AreAbsentAtStart}
use Rattle.ring_range.proofs.Circle.{distance-lt, distance-turn, distance-ahead}
use Rattle.ring_range.proofs.Parts.{holds-part, IsRange-part, size-part, start-part, absent-part}
use Rattle.ring_range.proofs.Pairs.{Two, Pair, pair_common, pair_apart, pair_absent, pair_nearer, pair_fewest}

-- the three cases, in steps from this range's start
steps_both : (size more far steps : ℕ) → size ≤ circle → more < circle → far < circle → steps < circle
    → ((nat_le 0 steps && nat_lt steps (min size ((far + more) - circle))) || (nat_le far steps && nat_lt steps (min size (far + more))))
    ≡ (nat_lt steps size && nat_lt (distance far steps) more)
steps_both size more far steps s m f b = grind (arith, nat_tests)

steps_apart : (size more far steps : ℕ) → more < circle
    → ((nat_le 0 steps && nat_lt steps (min size ((far + more) - circle))) && (nat_le far steps && nat_lt steps (min size (far + more))))
    ≡ false
steps_apart size more far steps m = grind (arith, nat_tests)

steps_gap : (size more far : ℕ) → more < circle → 0 < min size ((far + more) - circle) → min size ((far + more) - circle) < far
steps_gap size more far m some = omega arith

steps_end : (size more far : ℕ) → (size < circle) ⊎ (more ≡ 0) → far < circle → far < min size (far + more)
    → far + (min size (far + more) - far) < circle
steps_end size more far (inl short) f on = omega arith
steps_end size more far (inr none) f on = omega arith

ahead-none : (place : ℕ) → place < circle → ahead place 0 ≡ place
ahead-none place p = grind (arith, nat_tests)

or_comm : (a b : Bool) → (a || b) ≡ (b || a)
or_comm true true = refl
or_comm true false = refl
or_comm false true = refl
or_comm false false = refl

and_comm : (a b : Bool) → (a && b) ≡ (b && a)
and_comm true true = refl
and_comm true false = refl
and_comm false true = refl
and_comm false false = refl

by_tests : (P : List Range → Type 0) (full whole none : Bool) (a b c d : List Range) → (full ≡ true → P a)
    → (full ≡ false → whole ≡ true → P b) → (full ≡ false → whole ≡ false → none ≡ true → P c)
    → (full ≡ false → whole ≡ false → none ≡ false → P d) → P (cond full a (cond whole b (cond none c d)))
by_tests P true whole none a b c d p q r s = p refl
by_tests P false true none a b c d p q r s = q refl refl
by_tests P false false true a b c d p q r s = r refl refl refl
by_tests P false false false a b c d p q r s = s refl refl refl

test_less : (m n : ℕ) → m ≤ n → (m == n) ≡ false → m < n
test_less m n le e = grind (arith, nat_tests)

test_some : (n : ℕ) → (n == 0) ≡ false → 0 < n
test_some n e = grind (arith, nat_tests)

test_whole : (size more : ℕ) → ((size == circle) && nat_lt 0 more) ≡ true → (size ≡ circle) × (0 < more)
test_whole size more e = grind (arith, nat_tests)

test_open : (size more : ℕ) → size ≤ circle → ((size == circle) && nat_lt 0 more) ≡ false → (size < circle) ⊎ (more ≡ 0)
test_open size more le e = grind (arith, nat_tests)

-- the pairs of the three cases
module _ (this other : Range) (t : IsRange this) (o : IsRange other) where
  pair_full_other : other.size ≡ circle → Pair this other this (nothing_of this)
  pair_full_other full = record {
    first_ok = t;
    second_ok = record { start_below = t.start_below; size_within = omega arith };
    both = λ hash h. let lt = distance-lt other.start hash o.start_below h in grind (arith, nat_tests);
    apart = λ hash h. grind (arith, nat_tests);
    first_absent = λ _. refl;
    second_absent = λ _. refl;
    two = λ some. absurd (omega arith);
  }

  pair_full_this : this.size ≡ circle → 0 < other.size → Pair this other other (nothing_of this)
  pair_full_this full some = record {
    first_ok = o;
    second_ok = record { start_below = t.start_below; size_within = omega arith };
    both = λ hash h. let lt = distance-lt this.start hash t.start_below h in grind (arith, nat_tests);
    apart = λ hash h. grind (arith, nat_tests);
    first_absent = λ none. absurd (omega arith);
    second_absent = λ _. refl;
    two = λ some. absurd (omega arith);
  }

  abbrev far : ℕ
  far = distance this.start other.start

  abbrev at_start_to : ℕ
  at_start_to = min this.size ((far + other.size) - circle)

  abbrev further_to : ℕ
  further_to = min this.size (far + other.size)

  abbrev at_start : Range
  at_start = meet_at_start this other

  abbrev further : Range
  further = meet_further_on this other

  holds_at_start : (hash : ℕ) → hash < circle → holds at_start hash
      ≡ (nat_le 0 (distance this.start hash) && nat_lt (distance this.start hash) at_start_to)
  holds_at_start hash h = holds-part this 0 at_start_to hash t (omega arith) h

  holds_further : (hash : ℕ) → hash < circle → holds further hash
      ≡ (nat_le far (distance this.start hash) && nat_lt (distance this.start hash) further_to)
  holds_further hash h = holds-part this far further_to hash t (omega arith) h

  holds_other : (hash : ℕ) → hash < circle → holds other hash ≡ nat_lt (distance far (distance this.start hash)) other.size
  holds_other hash h = ap (λ d. nat_lt d other.size) (distance-turn this.start other.start hash t.start_below o.start_below h)

  far-lt : far < circle
  far-lt = distance-lt this.start other.start t.start_below o.start_below

  parts_both : other.size < circle → (hash : ℕ) → hash < circle
      → (holds at_start hash || holds further hash) ≡ (holds this hash && holds other hash)
  parts_both short hash h =
      ap (λ b. b || holds further hash) (holds_at_start hash h)
      ∙ ap (λ b. (nat_le 0 (distance this.start hash) && nat_lt (distance this.start hash) at_start_to) || b) (holds_further hash h)
      ∙ steps_both this.size other.size far (distance this.start hash) t.size_within short far-lt
      (distance-lt this.start hash t.start_below h)
      ∙ ap (λ b. holds this hash && b) (sym (holds_other hash h))

  parts_apart : other.size < circle → (hash : ℕ) → hash < circle → (holds at_start hash && holds further hash) ≡ false
  parts_apart short hash h =
      ap (λ b. b && holds further hash) (holds_at_start hash h)
      ∙ ap (λ b. (nat_le 0 (distance this.start hash) && nat_lt (distance this.start hash) at_start_to) && b) (holds_further hash h)
      ∙ steps_apart this.size other.size far (distance this.start hash) short

  size_at_start : at_start.size ≡ at_start_to
  size_at_start = omega (arith, size-part this 0 at_start_to)

  two_parts : other.size < circle → (this.size < circle) ⊎ (other.size ≡ 0) → 0 < at_start.size → 0 < further.size
      → Two this at_start further
  two_parts short not_whole some more =
      let from : 0 < at_start_to = omega (arith, size_at_start) in
      let on : far < further_to = omega (arith, size-part this far further_to) in
      let place : distance this.start further.start ≡ far = ap (distance this.start) (start-part this far further_to on) ∙ distance-ahead this.start far t.start_below far-lt in
      record {
        first_some = some;
        first_at = start-part this 0 at_start_to from ∙ ahead-none this.start t.start_below;
        gap = rw (size_at_start, place) (steps_gap this.size other.size far short from);
        end = rw (place, size-part this far further_to) (steps_end this.size other.size far not_whole far-lt on);
      }

  pair_parts : other.size < circle → (this.size < circle) ⊎ (other.size ≡ 0) → 0 < at_start.size → Pair this other at_start further
  pair_parts short not_whole some = record {
    first_ok = IsRange-part this 0 at_start_to t (omega arith);
    second_ok = IsRange-part this far further_to t (omega arith);
    both = parts_both short;
    apart = parts_apart short;
    first_absent = absent-part this 0 at_start_to;
    second_absent = absent-part this far further_to;
    two = two_parts short not_whole some;
  }

  pair_one_part : other.size < circle → at_start.size ≡ 0 → Pair this other further at_start
  pair_one_part short none = record {
    first_ok = IsRange-part this far further_to t (omega arith);
    second_ok = IsRange-part this 0 at_start_to t (omega arith);
    both = λ hash h. or_comm (holds further hash) (holds at_start hash) ∙ parts_both short hash h;
    apart = λ hash h. and_comm (holds further hash) (holds at_start hash) ∙ parts_apart short hash h;
    first_absent = absent-part this far further_to;
    second_absent = absent-part this 0 at_start_to;
    two = λ some. absurd (omega arith);
  }

  -- what holds of each pair holds where they meet
  meet_by_pairs : (P : List Range → Type 0) → ((first second : Range) → Pair this other first second → P (first ∷ second ∷ []))
      → P (meet_of this other)
  unfolding meet_of
  meet_by_pairs P each =
      by_tests P (other.size == circle) ((this.size == circle) && nat_lt 0 other.size) (at_start.size == 0) _ _ _ _
      (λ full. each this (nothing_of this) (pair_full_other (eqb-true _ _ full)))
      (λ short full. let whole = test_whole _ _ full in each other (nothing_of this) (pair_full_this whole.0 whole.1))
      (λ short not_whole none. each further at_start (pair_one_part (test_less _ _ o.size_within short) (eqb-true _ _ none)))
      (λ short not_whole some. each at_start further (pair_parts (test_less _ _ o.size_within short) (test_open _ _ t.size_within not_whole)
      (test_some _ some)))

pub common : (this other : Range) → IsRange this → IsRange other → AreCommon this other (meet_of this other)
common this other t o = meet_by_pairs this other t o (AreCommon this other) (λ first second p. pair_common this other first second t o p)

pub apart : (this other : Range) → IsRange this → IsRange other → AreApart (meet_of this other)
apart this other t o = meet_by_pairs this other t o AreApart (λ first second p. pair_apart this other first second t o p)

pub fewest : (this other : Range) → IsRange this → IsRange other → AreFewest this other (meet_of this other)
fewest this other t o = meet_by_pairs this other t o (AreFewest this other) (λ first second p. pair_fewest this other first second t o p)

pub nearer_first : (this other : Range) → IsRange this → IsRange other → AreNearerFirst this (meet_of this other)
nearer_first this other t o =
    meet_by_pairs this other t o (AreNearerFirst this) (λ first second p. pair_nearer this other first second t o p)

pub absent : (this other : Range) → IsRange this → IsRange other → AreAbsentAtStart this (meet_of this other)
absent this other t o = meet_by_pairs this other t o (AreAbsentAtStart this) (λ first second p. pair_absent this other first second t o p)

-- the parts are ranges, and a hash is in one of them where it is in both, by the tests
pub ranges : (this other : Range) → IsRange this → IsRange other → All IsRange (meet_of this other)
ranges this other t o =
    meet_by_pairs this other t o (All IsRange) (λ first second p. All-cons IsRange first (second ∷ []) p.first_ok
    (All-cons IsRange second [] p.second_ok (All-nil IsRange)))

pub held : (this other : Range) (hash : ℕ) → IsRange this → IsRange other → hash < circle
    → list_any (λ part. holds part hash) (meet_of this other) ≡ (holds this hash && holds other hash)
held this other hash t o h =
    meet_by_pairs this other t o (λ parts. list_any (λ part. holds part hash) parts ≡ (holds this hash && holds other hash))
    (λ first second p. ap (λ b. holds first hash || b) (or_comm (holds second hash) false) ∙ p.both hash h)
