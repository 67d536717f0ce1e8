-- One step of a walk from piece to piece: behind a settled piece a range is settled where it was.
use Rattle.std.proofs.Common.{arith, ◌≡◌, refl, sym, ◌∙◌, subst, ℕ, List, ◌-◌, ◌<◌, ◌≤◌, ◌⊎◌, inl, inr, nat_le, nat_lt}
use Rattle.std.specs.Prelude.{true, false, ◌&&◌}
use Rattle.std.proofs.lemmas.Bool.{cases_lt}
use Rattle.std.proofs.lemmas.Bool.Decides.{nat_tests, same_from_decides}
use Rattle.texts.proofs.Decided.{false_from_not, both}
use Rattle.ring_range.specs.Range.{circle, Range, IsRange, distance, holds, part_of}
use Rattle.ring_range.specs.Cut as cut
use Rattle.ring_range.proofs.Circle.{distance-itself}
use Rattle.ring_range.proofs.Parts.{holds-part, IsRange-part}
use Rattle.directory_rules.specs.State.{Piece}
use Rattle.directory_rules.specs.Sight.{was_settled}
use Rattle.directory_rules.specs.Laws.{lies_settled}
use Rattle.directory_rules.proofs.Cases.{on_bool}
use Rattle.grain_partition.specs.Holdings.{ArePieces}
use Rattle.grain_partition.specs.Settled.{LiesSettled}
use Rattle.grain_partition.specs.Search.{SettlesAt}
use Rattle.grain_partition.proofs.Around.{distance-over, holds-below, below-holds}
use Rattle.grain_partition.proofs.OnePiece.{at_lookup}
use Rattle.grain_partition.proofs.SettledHashes.{lies_by}
use Rattle.grain_partition.proofs.SettledParts.{Decides-was_settled}

-- what of a range lies behind another one that has its first hash
abbrev pub part_behind : Range → Range → Range
part_behind range first = part_of range (first.size - distance first.start range.start) range.size

-- a range without a hash is settled
pub settled-nothing : (pieces : List (ℕ × Piece)) (range : Range) → range.size ≡ 0 → was_settled pieces range ≡ true
unfolding cut.cut_parts
settled-nothing pieces range none = rw none refl

-- a range whose first hash lies in no settled piece isn't
pub unsettled-first : (pieces : List (ℕ × Piece)) → ArePieces pieces → (range : Range) → IsRange range → 0 < range.size
    → lies_settled range.start pieces ≡ false
    → was_settled pieces range ≡ false
unsettled-first pieces are range ok some lies =
    false_from_not (was_settled pieces range) (Decides-was_settled pieces are range ok)
    (λ all. let no : false ≡ true = sym lies ∙ all range.start ok.start_below (holds-below range range.start (omega (arith, distance-itself range.start))) in cc)

module _ (pieces : List (ℕ × Piece)) (are : ArePieces pieces) (range : Range) (ok : IsRange range) (first : Range)
    (at : SettlesAt pieces range.start first) where
  first_ok : IsRange first
  first_ok =
      subst (λ r. IsRange r) at.range_is (at_lookup (λ e. IsRange e.1.range) pieces are.ranges at.piece.range.start at.piece at.there)

  abbrev covered : ℕ
  covered = first.size - distance first.start range.start

  begins : distance first.start range.start < first.size
  begins = below-holds first range.start at.has

  pub behind_is : (hash : ℕ) → hash < circle → holds (part_behind range first) hash
      ≡ (nat_le covered (distance range.start hash) && nat_lt (distance range.start hash) range.size)
  behind_is hash below = holds-part range covered range.size hash ok (omega arith) below

  -- a hash behind is the range's
  pub behind_in_range : (hash : ℕ) → hash < circle → holds (part_behind range first) hash ≡ true → holds range hash ≡ true
  behind_in_range hash below held =
      (both (nat_le covered (distance range.start hash)) (nat_lt (distance range.start hash) range.size)
      (sym (behind_is hash below) ∙ held)).1

  behind_in : LiesSettled pieces range → LiesSettled pieces (part_behind range first)
  behind_in lies hash below held = lies hash below (behind_in_range hash below held)

  -- a hash of the range that isn't the first piece's is behind
  pub behind_first : (hash : ℕ) → hash < circle → holds range hash ≡ true → holds first hash ≡ false
      → holds (part_behind range first) hash ≡ true
  behind_first hash below held apart = by (cases_lt (distance range.start hash) covered)
    where
      tests : covered ≤ distance range.start hash → distance range.start hash < range.size
          → (nat_le covered (distance range.start hash) && nat_lt (distance range.start hash) range.size) ≡ true
      tests le lt = grind (arith, nat_tests)

      by : (distance range.start hash < covered) ⊎ (covered ≤ distance range.start hash) → holds (part_behind range first) hash ≡ true
      by (inl near) =
          let over = distance-over first.start range.start hash first_ok.start_below ok.start_below below (omega (arith, begins, first_ok.size_within)) in
          let no : false ≡ true = sym apart ∙ holds-below first hash (omega (arith, over, begins)) in cc
      by (inr far) = behind_is hash below ∙ tests far (below-holds range hash held)

  -- a hash of the range is behind or the first piece's
  in_behind : LiesSettled pieces (part_behind range first) → LiesSettled pieces range
  in_behind lies hash below held =
      on_bool (λ b. holds first hash ≡ b → lies_settled hash pieces ≡ true) (holds first hash)
      (λ t has.
      lies_by pieces hash first (record {
        piece = at.piece;
        there = at.there;
        settled = at.settled;
        range_is = at.range_is;
        has = has;
      }))
      (λ f apart. lies hash below (behind_first hash below held apart)) refl

  pub settled-behind : was_settled pieces range ≡ was_settled pieces (part_behind range first)
  settled-behind =
      let here = Decides-was_settled pieces are range ok in
      let there = Decides-was_settled pieces are (part_behind range first) (IsRange-part range covered range.size ok (omega arith)) in
      same_from_decides {P = LiesSettled pieces range} (was_settled pieces range) (was_settled pieces (part_behind range first)) here
      (λ t. in_behind (there.0 t), λ lies. there.1 (behind_in lies))
