-- The ranges of pieces under their starts, in order, and what a changed piece leaves of them.
use Rattle.std.proofs.Common.{arith, ◌≡◌, refl, sym, ap, subst, ◌∙◌, ℕ, ◌+◌, ◌<◌, suc, List, [], ◌∷◌}
use Rattle.std.specs.Prelude.{⊤, Bool, true, false, cond, map, find, count_by, All, AllPairs, Option, Some}
use Rattle.std.specs.Option.{option_map}
use Rattle.std.specs.Ordering.{nat_cmp}
use Rattle.std.specs.Map.{lookup, set_value}
use Rattle.std.specs.BTreeMap.{is_at}
use Rattle.std.proofs.lemmas.List.Elements.{All-nil, All-cons, All-head, All-tail}
use Rattle.std.proofs.lemmas.List.Sums.{sum_by-cons}
use Rattle.texts.proofs.Orderings.{at_itself, at_lower}
use Rattle.silo_address.specs.Silo.{Silo}
use Rattle.membership_view.specs.View.{ViewValue}
use Rattle.ring_range.specs.Range.{Range, holds}
use Rattle.hash_ring.specs.declared.Hashing.{Hashing}
use Rattle.range_moves.specs.declared.RingArc.{RingArc}
use Rattle.directory_rules.specs.Answer.{piece_with}
use Rattle.directory_rules.specs.State.{Piece}
use Rattle.directory_rules.specs.Sight.{piece_of}
use Rattle.directory_rules.proofs.Pieces.{under, piece_range}

-- the ranges, under the keys of their pieces
abbrev pub ranges : List (ℕ × Piece) → List (ℕ × Range)
ranges pieces = map (λ e. (e.0, e.1.range)) pieces

-- each under its start, and these rise
abbrev pub Rising : List (ℕ × Range) → Type 0
Rising [] = ⊤
Rising (r ∷ rs) = (r.0 ≡ r.1.start) × All (λ later. r.0 < later.1.start) rs × Rising rs

-- how many of them hold the hash
abbrev pub holding_in : ℕ → List (ℕ × Range) → ℕ
holding_in hash rs = count_by (λ r. holds r.1 hash) rs

-- it is as many as the pieces that hold it
pub held_by_ranges : (hash : ℕ) (pieces : List (ℕ × Piece)) → holding_in hash (ranges pieces) ≡ count_by (λ e. holds e.1.range hash) pieces
held_by_ranges hash [] = refl
held_by_ranges hash (e ∷ es) =
    sum_by-cons (λ (r : ℕ × Range). cond (holds r.1 hash) 1 0) (e.0, e.1.range) (ranges es)
    ∙ ap (λ n. cond (holds e.1.range hash) 1 0 + n) (held_by_ranges hash es)
    ∙ sym (sum_by-cons (λ (x : ℕ × Piece). cond (holds x.1.range hash) 1 0) e es)

-- ---- a piece that is changed keeps its range
same_head : (e : ℕ × Piece) (found changed : Piece) (es : List (ℕ × Piece)) → ◌≡◌ {A = Option Piece} (Some e.1) (Some found)
    → found.range ≡ changed.range → ranges ((e.0, changed) ∷ es) ≡ ranges (e ∷ es)
same_head e found changed es is same =
    let there : e.1 ≡ found = cc in
    ap (λ (range : Range). (e.0, range) ∷ ranges es) (sym same ∙ ap (λ (piece : Piece). piece.range) (sym there))

pub changed_ranges : (test : ℕ → Bool) (pieces : List (ℕ × Piece)) (found changed : Piece) → lookup test pieces ≡ Some found
    → found.range ≡ changed.range → ranges (set_value test pieces changed) ≡ ranges pieces
changed_ranges test [] found changed is same = refl
changed_ranges test (e ∷ es) found changed is same = at (test e.0) is (λ later. changed_ranges test es found changed later same)
  where
    at : (b : Bool) → cond b (Some e.1) (lookup test es) ≡ Some found
        → (lookup test es ≡ Some found → ranges (set_value test es changed) ≡ ranges es)
        → ranges (cond b ((e.0, changed) ∷ es) (e ∷ set_value test es changed)) ≡ ranges (e ∷ es)
    at true here rest = same_head e found changed es here same
    at false there rest = ap (λ (rs : List (ℕ × Range)). (e.0, e.1.range) ∷ rs) (rest there)

-- the piece that has a hash begins behind what lies below all pieces
begins_behind : (low hash : ℕ) (pieces : List (ℕ × Piece)) (piece : Piece) → All (λ later. low < later.1.start) (ranges pieces)
    → piece_with hash pieces ≡ Some piece → low < piece.range.start
begins_behind low hash [] piece above is = absurd (cc)
begins_behind low hash (e ∷ es) piece above is =
    at (holds e.1.range hash) is (λ later. begins_behind low hash es piece
    (All-tail (λ r. low < r.1.start) (e.0, e.1.range) (ranges es) above) later)
  where
    at : (b : Bool) → option_map (λ x. x.1) (cond b (Some e) (find (λ x. holds x.1.range hash) es)) ≡ Some piece
        → (piece_with hash es ≡ Some piece → low < piece.range.start) → low < piece.range.start
    at true here rest =
        let there : e.1 ≡ piece = cc in
        subst (λ (p : Piece). low < p.range.start) there (All-head (λ r. low < r.1.start) (e.0, e.1.range) (ranges es) above)
    at false there rest = rest there

-- the piece that has a hash stands under its start
pub stands_at : (hash : ℕ) (pieces : List (ℕ × Piece)) (piece : Piece) → Rising (ranges pieces) → piece_with hash pieces ≡ Some piece
    → lookup (is_at (nat_cmp piece.range.start)) pieces ≡ Some piece
stands_at hash [] piece rising is = absurd (cc)
stands_at hash (e ∷ es) piece rising is = at (holds e.1.range hash) is (λ later. stands_at hash es piece rising.2 later)
  where
    at : (b : Bool) → option_map (λ x. x.1) (cond b (Some e) (find (λ x. holds x.1.range hash) es)) ≡ Some piece
        → (piece_with hash es ≡ Some piece → lookup (is_at (nat_cmp piece.range.start)) es ≡ Some piece)
        → lookup (is_at (nat_cmp piece.range.start)) (e ∷ es) ≡ Some piece
    at true here rest =
        let there : e.1 ≡ piece = cc in
        let key : e.0 ≡ piece.range.start = rising.0 ∙ ap (λ (p : Piece). p.range.start) there in
        ap (λ b. cond b (Some e.1) (lookup (is_at (nat_cmp piece.range.start)) es))
        (ap (λ k. is_at (nat_cmp piece.range.start) k) key ∙ at_itself piece.range.start) ∙ ap Some there
    at false there rest =
        ap (λ b. cond b (Some e.1) (lookup (is_at (nat_cmp piece.range.start)) es))
        (at_lower piece.range.start e.0 (begins_behind e.0 hash es piece rising.1 there)) ∙ rest there

-- ---- the pieces of arcs that rise
abbrev Below : RingArc → RingArc → Type 0
Below arc later = arc.range.start < later.range.start

above_all : (next : Bool) (hashing : Hashing) (view : ViewValue) (silo : Silo) (pieces : List (ℕ × Piece)) (low : ℕ) (arcs : List RingArc)
    → All (λ arc. low < arc.range.start) arcs
    → All (λ later. low < later.1.start) (ranges (map (under next hashing view silo pieces) arcs))
above_all next hashing view silo pieces low [] above = All-nil (λ later. low < later.1.start)
above_all next hashing view silo pieces low (arc ∷ arcs) above =
    All-cons (λ later. low < later.1.start) (arc.range.start, (piece_of next hashing view silo pieces arc).range)
    (ranges (map (under next hashing view silo pieces) arcs))
    (subst (λ (r : Range). low < r.start) (sym (piece_range next hashing view silo pieces arc))
    (All-head (λ a. low < a.range.start) arc arcs above))
    (above_all next hashing view silo pieces low arcs (All-tail (λ a. low < a.range.start) arc arcs above))

pub rising_arcs : (next : Bool) (hashing : Hashing) (view : ViewValue) (silo : Silo) (pieces : List (ℕ × Piece)) (arcs : List RingArc)
    → AllPairs Below arcs → Rising (ranges (map (under next hashing view silo pieces) arcs))
rising_arcs next hashing view silo pieces [] rise = tt
rising_arcs next hashing view silo pieces (arc ∷ arcs) rise = (
  ap (λ (r : Range). r.start) (sym (piece_range next hashing view silo pieces arc)),
  above_all next hashing view silo pieces arc.range.start arcs (λ k d below. rise 0 (suc k) d (omega arith) (omega (arith, below))),
  rising_arcs next hashing view silo pieces arcs (λ i j d less below. rise (suc i) (suc j) d (omega (arith, less)) (omega (arith, below))),
)
