-- The piece of a hash: only the piece that begins nearest before it can have it.
use Rattle.std.proofs.Common.{arith, ◌≡◌, refl, sym, ap, ◌∙◌, subst, ℕ, List, ◌<◌, ◌≤◌, find, ◌⊎◌, inl, inr}
use Rattle.std.specs.Prelude.{Bool, true, false, if◌then◌else◌, Option, Some, None, IsSome, is_some}
use Rattle.std.specs.Option.{option_map}
use Rattle.std.specs.Ordering.{nat_cmp}
use Rattle.std.specs.Map.{lookup}
use Rattle.std.specs.BTreeMap.{is_at}
use Rattle.std.proofs.lemmas.Bool.{cases_lt}
use Rattle.std.proofs.lemmas.Cmp.{nat_cmp_total}
use Rattle.std.proofs.lemmas.Option.{same_Some}
use Rattle.std.proofs.lemmas.Map.Lookups.{exact_unsigned}
use Rattle.membership_view.proofs.Found.{find_found, find_none}
use Rattle.ring_range.specs.Range.{circle, IsRange, distance, holds}
use Rattle.ring_range.proofs.Circle.{distance-up, distance-round, distance-itself}
use Rattle.directory_rules.specs.State.{Piece}
use Rattle.directory_rules.specs.Answer.{piece_with}
use Rattle.grain_partition.specs.Holdings.{ArePieces}
use Rattle.grain_partition.specs.Search.{BeginsNearest}
use Rattle.grain_partition.proofs.Around.{holds-below, below-holds}
use Rattle.grain_partition.proofs.OnePiece.{at_lookup, only_one}

-- whether a piece has the hash
abbrev has : ℕ → Piece → Bool
has hash piece = holds piece.range hash

-- where nothing at or before the hash is found, what is found is past it
pub past_where : (hash other : ℕ) (o : Option Piece) → (other ≤ hash → o ≡ None) → IsSome o → hash < other
past_where hash other o none there = by (cases_lt hash other)
  where
    by : (hash < other) ⊎ (other ≤ hash) → hash < other
    by (inl gt) = gt
    by (inr le) = let no : false ≡ true = sym (ap is_some (none le)) ∙ there in cc

module _ (pieces : List (ℕ × Piece)) (are : ArePieces pieces) (hash : ℕ) (below : hash < circle) (piece : Piece)
    (near : BeginsNearest pieces hash piece) where
  -- the piece has its own start
  has_start : has piece.range.start piece ≡ true
  has_start =
      let size = at_lookup (λ e. 0 < e.1.range.size) pieces are.present piece.range.start piece near.there in
      holds-below piece.range piece.range.start (subst (λ n. n < piece.range.size) (sym (distance-itself piece.range.start)) size)

  start_below : piece.range.start < circle
  start_below = (at_lookup (λ e. IsRange e.1.range) pieces are.ranges piece.range.start piece near.there).start_below

  -- a piece that has the hash is this one
  is_this : (start : ℕ) (other : Piece) → lookup (is_at (nat_cmp start)) pieces ≡ Some other → has hash other ≡ true
      → start ≡ piece.range.start
  is_this start other found held =
      let under : other.range.start ≡ start = at_lookup (λ e. e.1.range.start ≡ e.0) pieces are.under_start start other found in
      let before : distance start piece.range.start ≤ distance start hash = near.nearest start (subst (λ o. IsSome o) (sym found) refl) in
      let within : distance start hash < other.range.size = subst (λ n. distance n hash < other.range.size) under (below-holds other.range hash held) in
      let reaches : distance other.range.start piece.range.start < other.range.size =
      subst (λ n. distance n piece.range.start < other.range.size) (sym under) (omega arith) in
      only_one (has piece.range.start) pieces (are.once piece.range.start start_below) start piece.range.start other piece found near.there
      (holds-below other.range piece.range.start reaches) has_start

  -- so the first piece that has the hash is this one, if it has it, and otherwise there is none
  pub piece_with_nearest : piece_with hash pieces ≡ (if has hash piece then Some piece else None)
  piece_with_nearest = by (find (λ e. has hash e.1) pieces) refl
    where
      by : (o : Option (ℕ × Piece)) → find (λ e. has hash e.1) pieces ≡ o
          → option_map (λ e. e.1) o ≡ (if has hash piece then Some piece else None)
      by None is =
          ap (λ b. if b then Some piece else None)
          (sym (find_none nat_cmp_total (λ k p. has hash p) exact_unsigned pieces is piece.range.start piece near.there))
      by (Some f) is =
          let got = find_found nat_cmp_total (λ k p. has hash p) pieces are.in_order f is in
          let this = is_this f.0 f.1 got.0 got.1 in
          let same : f.1 ≡ piece = same_Some f.1 piece (sym got.0 ∙ ap (λ k. lookup (is_at (nat_cmp k)) pieces) this ∙ near.there) in
          ap (λ p. Some p) same ∙ ap (λ b. if b then Some piece else None) (sym (ap (has hash) (sym same) ∙ got.1))

module _ (pieces : List (ℕ × Piece)) (are : ArePieces pieces) (hash start : ℕ) (piece : Piece)
    (found : lookup (is_at (nat_cmp start)) pieces ≡ Some piece) where
  -- what is told by the key of a piece is told by its range's start
  begins : ((other : ℕ) → IsSome (lookup (is_at (nat_cmp other)) pieces) → distance other start ≤ distance other hash)
      → BeginsNearest pieces hash piece
  begins nearest =
      let is : piece.range.start ≡ start = at_lookup (λ e. e.1.range.start ≡ e.0) pieces are.under_start start piece found in record {
        there = ap (λ k. lookup (is_at (nat_cmp k)) pieces) is ∙ found;
        nearest = λ other there. subst (λ k. distance other k ≤ distance other hash) (sym is) (nearest other there);
      }

  -- a piece is the nearest where it begins at or before the hash, and none begins between the two
  pub nearest_before : start ≤ hash → ((other : ℕ) → other ≤ hash → IsSome (lookup (is_at (nat_cmp other)) pieces) → other ≤ start)
      → BeginsNearest pieces hash piece
  nearest_before before last = begins (λ other there. by (cases_lt hash other) there)
    where
      by : {other : ℕ} → (hash < other) ⊎ (other ≤ hash) → IsSome (lookup (is_at (nat_cmp other)) pieces)
          → distance other start ≤ distance other hash
      by {other} (inr le) there =
          let up = distance-up other start (last other le there) in
          let on = distance-up other hash le in omega arith
      by {other} (inl gt) there =
          let up = distance-round other start (omega arith) in
          let on = distance-round other hash gt in omega arith

  -- and where none begins at or before the hash, it is the last of all
  pub nearest_round : ((other : ℕ) → IsSome (lookup (is_at (nat_cmp other)) pieces) → (hash < other) × (other ≤ start))
      → BeginsNearest pieces hash piece
  nearest_round last = begins (λ other there.
      let both = last other there in
      let below : start < circle = subst (λ k. k < circle) (at_lookup (λ e. e.1.range.start ≡ e.0) pieces are.under_start start piece found)
      (at_lookup (λ e. IsRange e.1.range) pieces are.ranges start piece found).start_below in
      let up = distance-up other start both.1 in
      let on = distance-round other hash both.0 in omega arith)
