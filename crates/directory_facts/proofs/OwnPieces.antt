-- How many pieces hold a hash: none, or the silo's own one.
use Rattle.std.proofs.Common.{arith, ◌≡◌, ℕ, ◌+◌, ◌≤◌, List, [], ◌∷◌, refl, ap, ◌∙◌}
use Rattle.std.specs.Prelude.{Bool, true, false, cond, count_by, find, Some, Option, None}
use Rattle.std.specs.Option.{option_map}
use Rattle.std.proofs.lemmas.List.Sums.{sum_by-cons}
use Rattle.silo_address.specs.Silo.{Silo}
use Rattle.silo_address.proofs.Same.{Decides-silo}
use Rattle.ring_range.specs.Range.{holds}
use Rattle.directory_rules.specs.State.{Piece}
use Rattle.directory_rules.specs.Answer.{piece_with}
use Rattle.directory_rules.specs.Sight.{is_owner}

-- how many of the pieces hold the hash
abbrev pub holding : ℕ → List (ℕ × Piece) → ℕ
holding h pieces = count_by (λ e. holds e.1.range h) pieces

pub counted_first : (h : ℕ) (e : ℕ × Piece) (es : List (ℕ × Piece)) → holding h (e ∷ es) ≡ cond (holds e.1.range h) 1 0 + holding h es
counted_first h e es = sum_by-cons (λ (x : ℕ × Piece). cond (holds x.1.range h) 1 0) e es

pub counted : (h : ℕ) (e : ℕ × Piece) (es : List (ℕ × Piece)) (b : Bool) → holds e.1.range h ≡ b
    → holding h (e ∷ es) ≡ cond {A = ℕ} b 1 0 + holding h es
counted h e es b is = counted_first h e es ∙ ap (λ b. cond {A = ℕ} b 1 0 + holding h es) is

-- a piece that is found is counted
pub found_counted : (h : ℕ) (pieces : List (ℕ × Piece)) (piece : Piece) → piece_with h pieces ≡ Some piece → 1 ≤ holding h pieces
found_counted h [] piece found = absurd (cc (found))
found_counted h (e ∷ es) piece found = at (holds e.1.range h) refl found (λ later. found_counted h es piece later)
  where
    at : (b : Bool) → holds e.1.range h ≡ b → option_map (λ x. x.1) (cond b (Some e) (find (λ x. holds x.1.range h) es)) ≡ Some piece
        → (piece_with h es ≡ Some piece → 1 ≤ holding h es) → 1 ≤ holding h (e ∷ es)
    at true held here rest = let all = counted h e es true held in omega (all, arith)
    at false held here rest = let all = counted h e es false held in let some = rest here in omega (all, some, arith)

-- as many as the silo owns: one or none
pub at_most_one : (b : Bool) (n : ℕ) → n ≡ cond b 1 0 → n ≤ 1
at_most_one true n is = omega (is, arith)
at_most_one false n is = omega (is, arith)

-- the owner that is the silo
pub owner_silo_is : (silo : Silo) (o : Option Silo) → is_owner silo o ≡ true → o ≡ Some silo
owner_silo_is silo None is = absurd (cc (is))
owner_silo_is silo (Some owner) is = ap Some ((Decides-silo owner silo).0 is)
