-- The piece that has a hash: what is known of it, and what a changed piece leaves.
use Rattle.std.proofs.Common.{arith, ◌≡◌, refl, sym, ap, subst, ◌∙◌, ℕ, ◌<◌, List, [], ◌∷◌}
use Rattle.std.specs.Prelude.{Bool, true, false, cond, find, All, AllPairs, Option, Some, None}
use Rattle.std.specs.Option.{option_map}
use Rattle.std.specs.List.{AllByRecursion}
use Rattle.std.specs.List.Sorted.{IsStrictlySortedBy}
use Rattle.std.specs.Ordering.{nat_cmp}
use Rattle.std.specs.declared.cmp.Ordering.TheVariants.{Less}
use Rattle.std.specs.Map.{keys_of}
use Rattle.std.proofs.lemmas.Cmp.{ranked}
use Rattle.std.proofs.lemmas.List.Elements.{All-nil, All-cons, All-head, All-tail}
use Rattle.std.proofs.lemmas.List.Kept.{AllPairs-cons}
use Rattle.ring_range.specs.Range.{Range, holds}
use Rattle.directory_rules.specs.declared.piece_state.PieceState.{PieceState}
use Rattle.directory_rules.specs.State.{Piece}
use Rattle.directory_rules.specs.Answer.{piece_with}
use Rattle.directory_rules.proofs.Cases.{on_bool}
use Rattle.directory_rules.proofs.Ranges.{ranges, Rising}
use Rattle.directory_facts.specs.Whole.{outline_of}

-- keys that rise are starts that rise
above :
    (low : ℕ) (pieces : List (ℕ × Piece)) → AllByRecursion (λ key. nat_cmp low key ≡ Less) (keys_of pieces)
    → All (λ e. e.0 ≡ e.1.range.start) pieces
    → All (λ r. low < r.1.start) (ranges pieces)
above low [] rising under = All-nil (λ (r : ℕ × Range). low < r.1.start)
above low (e ∷ es) rising under =
    All-cons (λ (r : ℕ × Range). low < r.1.start) (e.0, e.1.range) (ranges es)
    (subst (λ n. low < n) (All-head (λ (x : ℕ × Piece). x.0 ≡ x.1.range.start) e es under) (ranked low e.0 Less (sym rising.0)))
    (above low es rising.1 (All-tail (λ (x : ℕ × Piece). x.0 ≡ x.1.range.start) e es under))

pub rising_ranges : (pieces : List (ℕ × Piece)) → IsStrictlySortedBy nat_cmp (keys_of pieces) → All (λ e. e.0 ≡ e.1.range.start) pieces
    → Rising (ranges pieces)
unfolding IsStrictlySortedBy
rising_ranges [] rising under = tt
rising_ranges (e ∷ es) rising under =
    let later = All-tail (λ (x : ℕ × Piece). x.0 ≡ x.1.range.start) e es under in
    (All-head (λ (x : ℕ × Piece). x.0 ≡ x.1.range.start) e es under, above e.0 es rising.0 later, rising_ranges es rising.1 later)

-- each key is below the later ones
lower : (low : ℕ) (pieces : List (ℕ × Piece)) → AllByRecursion (λ key. nat_cmp low key ≡ Less) (keys_of pieces)
    → All (λ e. low < e.0) pieces
lower low [] rising = All-nil (λ (e : ℕ × Piece). low < e.0)
lower low (e ∷ es) rising = All-cons (λ (x : ℕ × Piece). low < x.0) e es (ranked low e.0 Less (sym rising.0)) (lower low es rising.1)

pub keys_rise : (pieces : List (ℕ × Piece)) → IsStrictlySortedBy nat_cmp (keys_of pieces) → AllPairs (λ e later. e.0 < later.0) pieces
unfolding IsStrictlySortedBy
keys_rise [] rising = λ i j d less below. absurd (omega (arith, below))
keys_rise (e ∷ es) rising = AllPairs-cons (λ (x later : ℕ × Piece). x.0 < later.0) e es (lower e.0 es rising.0) (keys_rise es rising.1)

-- what holds of all pieces holds of the one that is found
pub of_found : (P : ℕ × Piece → Type 0) (hash : ℕ) (pieces : List (ℕ × Piece)) (piece : Piece) → All P pieces
    → piece_with hash pieces ≡ Some piece → (key : ℕ) × P (key, piece)
of_found P hash [] piece all found = absurd (cc (found))
of_found P hash (e ∷ es) piece all found = at (holds e.1.range hash) found (λ later. of_found P hash es piece (All-tail P e es all) later)
  where
    at : (b : Bool) → option_map (λ x. x.1) (cond b (Some e) (find (λ x. holds x.1.range hash) es)) ≡ Some piece
        → (piece_with hash es ≡ Some piece → (key : ℕ) × P (key, piece)) → (key : ℕ) × P (key, piece)
    at true here rest = let same : e.1 ≡ piece = cc (here) in (e.0, subst (λ p. P (e.0, p)) same (All-head P e es all))
    at false here rest = rest here

-- ---- the state of the piece that has a hash
abbrev pub state_with : ℕ → List (ℕ × Piece) → Option PieceState
state_with hash pieces = option_map (λ (p : Piece). p.state) (piece_with hash pieces)

state_in : ℕ → List (ℕ × Range × PieceState) → Option PieceState
state_in hash [] = None
state_in hash (o ∷ os) = cond (holds o.1 hash) (Some o.2) (state_in hash os)

state_outlined : (hash : ℕ) (pieces : List (ℕ × Piece)) → state_with hash pieces ≡ state_in hash (outline_of pieces)
unfolding state_in
state_outlined hash [] = refl
state_outlined hash (e ∷ es) =
    on_bool (λ b. option_map (λ (p : Piece). p.state) (option_map (λ x. x.1) (cond b (Some e) (find (λ x. holds x.1.range hash) es))) ≡ cond
    b (Some e.1.state) (state_in hash (outline_of es))) (holds e.1.range hash)
    (λ t. refl) (λ f. state_outlined hash es)

-- pieces of the same ranges and states
pub states_same : (hash : ℕ) (before after : List (ℕ × Piece)) → outline_of after ≡ outline_of before
    → state_with hash after ≡ state_with hash before
states_same hash before after same = state_outlined hash after ∙ ap (state_in hash) same ∙ sym (state_outlined hash before)
