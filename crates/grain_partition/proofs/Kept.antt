-- A piece in the place of another of the same range: the pieces keep what they keep.
use Rattle.std.proofs.Common.{◌≡◌, refl, sym, ap, ◌∙◌, subst, ℕ, ◌+◌, ◌<◌, ◌≤◌, List, [], ◌∷◌}
use Rattle.std.specs.Prelude.{Bool, true, false, cond, All, count_by, Option, Some, None, IsSomeAnd}
use Rattle.std.specs.List.Sorted.{IsStrictlySortedBy}
use Rattle.std.specs.Map.{lookup, set_value}
use Rattle.std.specs.BTreeMap.{is_at}
use Rattle.std.specs.Ordering.{nat_cmp}
use Rattle.std.proofs.lemmas.Option.{same_Some}
use Rattle.std.proofs.lemmas.List.Elements.{All-cons, All-head, All-tail}
use Rattle.std.proofs.lemmas.List.Sums.{sum_by-cons}
use Rattle.std.proofs.lemmas.Map.{keys-set_value}
use Rattle.ring_range.specs.Range.{Range, IsRange, holds}
use Rattle.directory_rules.specs.State.{Piece}
use Rattle.directory_rules.specs.Answer.{with_piece}
use Rattle.grain_partition.specs.Holdings.{ArePieces, HasPiece}

module _ (start : ℕ) (old new : Piece) (same : old.range ≡ new.range) where
  abbrev set : List (ℕ × Piece) → List (ℕ × Piece)
  set es = set_value (is_at (nat_cmp start)) es new

  -- the value at the key has the range of the old one
  same_there : (e : ℕ × Piece) → Some e.1 ≡ Some old → e.1.range ≡ new.range
  same_there e is = ap (λ (p : Piece). p.range) (same_Some e.1 old is) ∙ same

  all-set : (P : ℕ → Range → Type 0) (es : List (ℕ × Piece)) → lookup (is_at (nat_cmp start)) es ≡ Some old → All (λ e. P e.0 e.1.range) es
      → All (λ e. P e.0 e.1.range) (set es)
  all-set P [] found all = all
  all-set P (e ∷ es) found all =
      by (is_at (nat_cmp start) e.0) found (λ found. all-set P es found (All-tail (λ (e : ℕ × Piece). P e.0 e.1.range) e es all))
    where
      by : (b : Bool) → cond b (Some e.1) (lookup (is_at (nat_cmp start)) es) ≡ Some old
          → (lookup (is_at (nat_cmp start)) es ≡ Some old → All (λ e. P e.0 e.1.range) (set es))
          → All (λ e. P e.0 e.1.range) (cond b ((e.0, new) ∷ es) (e ∷ set es))
      by true found later =
          All-cons (λ (e : ℕ × Piece). P e.0 e.1.range) (e.0, new) es
          (subst (P e.0) (same_there e found) (All-head (λ (e : ℕ × Piece). P e.0 e.1.range) e es all))
          (All-tail (λ (e : ℕ × Piece). P e.0 e.1.range) e es all)
      by false found later =
          All-cons (λ (e : ℕ × Piece). P e.0 e.1.range) e (set es) (All-head (λ (e : ℕ × Piece). P e.0 e.1.range) e es all) (later found)

  count-set : (p : Range → Bool) (es : List (ℕ × Piece)) → lookup (is_at (nat_cmp start)) es ≡ Some old
      → count_by (λ e. p e.1.range) (set es) ≡ count_by (λ e. p e.1.range) es
  count-set p [] found = refl
  count-set p (e ∷ es) found =
      by (is_at (nat_cmp start) e.0) found (count-set p es) ∙ sym (sum_by-cons (λ (e : ℕ × Piece). cond (p e.1.range) 1 0) e es)
    where
      by : (b : Bool) → cond b (Some e.1) (lookup (is_at (nat_cmp start)) es) ≡ Some old
          → (lookup (is_at (nat_cmp start)) es ≡ Some old → count_by (λ e. p e.1.range) (set es) ≡ count_by (λ e. p e.1.range) es)
          → count_by (λ e. p e.1.range) (cond b ((e.0, new) ∷ es) (e ∷ set es)) ≡ cond (p e.1.range) 1 0 + count_by (λ e. p e.1.range) es
      by true found later =
          sum_by-cons (λ (e : ℕ × Piece). cond (p e.1.range) 1 0) (e.0, new) es
          ∙ ap (λ r. cond (p r) 1 0 + count_by (λ e. p e.1.range) es) (sym (same_there e found))
      by false found later =
          sum_by-cons (λ (e : ℕ × Piece). cond (p e.1.range) 1 0) e (set es) ∙ ap (λ n. cond (p e.1.range) 1 0 + n) (later found)

  pub pieces-set : (pieces : List (ℕ × Piece)) → ArePieces pieces → lookup (is_at (nat_cmp start)) pieces ≡ Some old
      → ArePieces (set pieces)
  pieces-set pieces are found = record {
    in_order = subst (λ keys. IsStrictlySortedBy nat_cmp keys) (sym (keys-set_value (is_at (nat_cmp start)) pieces new)) are.in_order;
    under_start = all-set (λ k r. r.start ≡ k) pieces found are.under_start;
    ranges = all-set (λ k r. IsRange r) pieces found are.ranges;
    present = all-set (λ k r. 0 < r.size) pieces found are.present;
    once = λ hash below. subst (λ n. n ≤ 1) (sym (count-set (λ r. holds r hash) pieces found)) (are.once hash below);
  }

-- a piece in the place of the one of just its range
pub pieces-with : (pieces : List (ℕ × Piece)) → ArePieces pieces → (piece : Piece) → HasPiece piece.range pieces
    → ArePieces (with_piece piece pieces)
pieces-with pieces are piece has = by (lookup (is_at (nat_cmp piece.range.start)) pieces) refl has
  where
    by : (o : Option Piece) → lookup (is_at (nat_cmp piece.range.start)) pieces ≡ o → IsSomeAnd o (λ p. p.range ≡ piece.range)
        → ArePieces (with_piece piece pieces)
    by None found there = absurd there
    by (Some old) found there = pieces-set piece.range.start old piece there pieces are found
