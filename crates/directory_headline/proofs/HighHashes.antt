-- Numbers above the circle, which no grain is hashed to. A range that has one has the highest hash too, and who owns that one
-- owns the number: going back, nothing lies between.
use Rattle.std.proofs.Common.{arith, ◌≡◌, refl, ap, ◌∙◌, ℕ, ◌+◌, ◌<◌, ◌≤◌, List, [], ◌∷◌}
use Rattle.std.specs.Prelude.{Bool, true, false, cond, nat_lt, count_by, if◌then◌else◌, All, Option, Some, None}
use Rattle.std.specs.Option.{option_map}
use Rattle.std.specs.List.{slice_index_or}
use Rattle.std.proofs.lemmas.Bool.{lt-ltb, ltb-true, ltb-false}
use Rattle.std.proofs.lemmas.List.Elements.{All-head, All-tail, All-contains, All-weaker}
use Rattle.silo_address.specs.Silo.{Silo}
use Rattle.silo_address.proofs.Same.{Decides-silo}
use Rattle.ring_range.specs.Range.{circle, Range, IsRange, holds}
use Rattle.ring_range.proofs.Circle.{distance-up}
use Rattle.hash_ring.specs.declared.point.Point.{Point}
use Rattle.hash_ring.specs.Point.{back, IsOnCircle}
use Rattle.hash_ring.specs.Owner.{owner_of, IsOwner, Owns}
use Rattle.hash_ring.proofs.Nearness.{back_below}
use Rattle.hash_ring.proofs.Ownership.{owner_is}
use Rattle.range_moves.specs.Arcs.{owner_silo}
use Rattle.directory_rules.specs.State.{Piece}
use Rattle.directory_rules.specs.Answer.{piece_with}
use Rattle.directory_rules.specs.Sight.{is_owner}
use Rattle.directory_rules.specs.Laws.{HoldOnce}
use Rattle.directory_facts.proofs.Served.{found_holds}
use Rattle.directory_facts.proofs.Throughout.{some_counted}
use Rattle.directory_headline.proofs.PieceAt.{of_found}
use Rattle.directory_facts.proofs.OwnPieces.{counted_first, found_counted, at_most_one}
use Rattle.directory_headline.proofs.HashPieces.{one_piece}

-- the hash itself; for a number above the circle the highest hash
abbrev pub hash_for : ℕ → ℕ
hash_for number = if nat_lt number circle then number else 4294967295

pub hash_below : (hash : ℕ) → hash < circle → hash_for hash ≡ hash
hash_below hash below = ap (λ b. if b then hash else 4294967295) (lt-ltb hash circle below)

-- what holds of it, by cases
pub hash_cases : (P : ℕ → Type 0) (number : ℕ) → (number < circle → P number) → (circle ≤ number → P 4294967295) → P (hash_for number)
hash_cases P number low high = by (nat_lt number circle) refl
  where
    by : (b : Bool) → nat_lt number circle ≡ b → P (if b then number else 4294967295)
    by true is = low (ltb-true number circle is)
    by false is = high (ltb-false number circle is)

pub is_hash : (number : ℕ) → hash_for number < circle
is_hash number = hash_cases (λ h. h < circle) number (λ low. low) (λ high. omega arith)

-- ---- ranges
pub holds_hash : (range : Range) (number : ℕ) → IsRange range → holds range number ≡ true → holds range (hash_for number) ≡ true
holds_hash range number is held = hash_cases (λ h. holds range h ≡ true) number (λ low. held) (λ high.
    let start = is.start_below in
    let steps = distance-up range.start number (omega arith) in
    let last = distance-up range.start 4294967295 (omega arith) in
    let less = ltb-true _ _ held in
    lt-ltb _ _ (omega arith))

-- ---- owners
pub owner_above : (points : List Point) (number : ℕ) (owner : Point) → All IsOnCircle points → IsOwner points (hash_for number) owner
    → IsOwner points number owner
owner_above points number owner on_circle is = record {
  there = is.there;
  nearest =
      hash_cases (λ h. All (λ p. back h owner.place ≤ back h p.place) points
      → All (λ p. back number owner.place ≤ back number p.place) points) number (λ low near. near) (λ high near k d below.
      let p = slice_index_or points k d in
      let its : owner.place < circle = All-contains IsOnCircle points owner on_circle is.there in
      let other : p.place < circle = on_circle k d below in
      let less = near k d below in
      let a = back_below 4294967295 owner.place (omega arith) in
      let b = back_below 4294967295 p.place (omega arith) in
      let c = back_below number owner.place (omega arith) in
      let e = back_below number p.place (omega arith) in
      omega arith) is.nearest;
  first_silo = is.first_silo;
  first_index = is.first_index;
}

-- the silo of the owning point owns
pub owns_by : (points : List Point) (number : ℕ) (silo : Silo) → All IsOnCircle points
    → is_owner silo (owner_silo points (hash_for number)) ≡ true → Owns points silo number
owns_by points number silo on_circle is = by (owner_of points (hash_for number)) refl is
  where
    by : (o : Option Point) → owner_of points (hash_for number) ≡ o → is_owner silo (option_map (λ p. p.silo) o) ≡ true
        → Owns points silo number
    by None found its = absurd (cc (its))
    by (Some p) found its =
        (p, owner_above points number p on_circle (owner_is points (hash_for number) p found), (Decides-silo p.silo silo).0 its)

-- ---- pieces
abbrev Goes : ℕ → ℕ → ℕ × Piece → Type 0
Goes hash other x = holds x.1.range hash ≡ true → holds x.1.range other ≡ true

fewer_held : (hash other : ℕ) (pieces : List (ℕ × Piece)) → All (Goes hash other) pieces
    → count_by (λ e. holds e.1.range hash) pieces ≤ count_by (λ e. holds e.1.range other) pieces
fewer_held hash other [] so = omega arith
fewer_held hash other (e ∷ es) so =
    by (holds e.1.range hash) refl (holds e.1.range other) refl (fewer_held hash other es (All-tail (Goes hash other) e es so))
  where
    by : (b : Bool) → holds e.1.range hash ≡ b → (c : Bool) → holds e.1.range other ≡ c
        → count_by (λ x. holds x.1.range hash) es ≤ count_by (λ x. holds x.1.range other) es
        → count_by (λ x. holds x.1.range hash) (e ∷ es) ≤ count_by (λ x. holds x.1.range other) (e ∷ es)
    by true has false holds_not fewer = let it = All-head (Goes hash other) e es so has in absurd (cc (it, holds_not))
    by true has true holds_it fewer =
        let one = counted_first hash e es ∙ ap (λ b. cond {A = ℕ} b 1 0 + count_by (λ x. holds x.1.range hash) es) has in
        let two = counted_first other e es ∙ ap (λ b. cond {A = ℕ} b 1 0 + count_by (λ x. holds x.1.range other) es) holds_it in
        omega (one, two, fewer, arith)
    by false has c holds_it fewer =
        let one = counted_first hash e es ∙ ap (λ b. cond {A = ℕ} b 1 0 + count_by (λ x. holds x.1.range hash) es) has in
        let two = counted_first other e es in
        omega (one, two, fewer, arith)

module _ (points : List Point) (silo : Silo) (pieces : List (ℕ × Piece)) (once : HoldOnce points silo pieces)
    (ranged : All (λ e. IsRange e.1.range) pieces) where
  pub found_hash : (number : ℕ) (piece : Piece) → piece_with number pieces ≡ Some piece → piece_with (hash_for number) pieces ≡ Some piece
  found_hash number piece found =
      one_piece number (hash_for number) pieces piece
      (at_most_one (is_owner silo (owner_silo points (hash_for number))) _ (once (hash_for number) (is_hash number))) found
      (holds_hash piece.range number (of_found (λ e. IsRange e.1.range) number pieces piece ranged found).1
      (found_holds number pieces piece found))

  -- the silo owns what lies in its pieces
  pub found_owned : (number : ℕ) (piece : Piece) → piece_with number pieces ≡ Some piece
      → is_owner silo (owner_silo points (hash_for number)) ≡ true
  found_owned number piece found =
      some_counted (is_owner silo (owner_silo points (hash_for number))) _ (once (hash_for number) (is_hash number))
      (found_counted (hash_for number) pieces piece (found_hash number piece found))

  -- no number lies in two pieces
  pub held_once : (number : ℕ) → count_by (λ e. holds e.1.range number) pieces ≤ 1
  held_once number =
      let fewer = fewer_held number (hash_for number) pieces (All-weaker (λ (e : ℕ × Piece). IsRange e.1.range) (Goes number (hash_for number)) (λ e is held. holds_hash e.1.range number is held) pieces ranged) in
      let most = at_most_one (is_owner silo (owner_silo points (hash_for number))) _ (once (hash_for number) (is_hash number)) in
      omega (fewer, most, arith)
