-- Pieces, when the one that stands under a start is changed: which piece has a hash then.
use Rattle.std.proofs.Common.{arith, ◌≡◌, ℕ, ◌≤◌, List, [], ◌∷◌, refl, sym, ap, ◌∙◌}
use Rattle.std.specs.Prelude.{true, false, cond, Some, find}
use Rattle.std.specs.Option.{option_map}
use Rattle.std.specs.Ordering.{nat_cmp}
use Rattle.std.specs.Map.{lookup, set_value}
use Rattle.std.specs.BTreeMap.{is_at}
use Rattle.ring_range.specs.Range.{holds}
use Rattle.directory_rules.specs.State.{Piece}
use Rattle.directory_rules.specs.Answer.{piece_with}
use Rattle.directory_rules.proofs.Cases.{on_bool}
use Rattle.directory_facts.proofs.OwnPieces.{holding, counted}

module _ (start h : ℕ) where
  -- a piece that stands under the start and holds the hash is counted
  pub looked_counted : (pieces : List (ℕ × Piece)) (piece : Piece) → lookup (is_at (nat_cmp start)) pieces ≡ Some piece
      → holds piece.range h ≡ true → 1 ≤ holding h pieces
  looked_counted [] piece found held = absurd (cc (found))
  looked_counted (e ∷ es) piece found held =
      on_bool (λ b. cond b (Some e.1) (lookup (is_at (nat_cmp start)) es) ≡ Some piece → 1 ≤ holding h (e ∷ es)) (is_at (nat_cmp start) e.0)
      (λ t is.
      let same : e.1 ≡ piece = cc (is) in
      let all = counted h e es true (ap (λ (p : Piece). holds p.range h) same ∙ held) in
      omega (all, arith))
      (λ f is.
      let more = looked_counted es piece is held in
      on_bool (λ b. holds e.1.range h ≡ b → 1 ≤ holding h (e ∷ es)) (holds e.1.range h)
      (λ t at. let all = counted h e es true at in omega (all, arith))
      (λ f at. let all = counted h e es false at in omega (all, more, arith)) refl)
      found

  -- and it is the piece that has the hash
  pub looked_found : (pieces : List (ℕ × Piece)) (piece : Piece) → lookup (is_at (nat_cmp start)) pieces ≡ Some piece
      → holds piece.range h ≡ true → holding h pieces ≤ 1 → piece_with h pieces ≡ Some piece
  looked_found [] piece found held once = absurd (cc (found))
  looked_found (e ∷ es) piece found held once =
      on_bool (λ b. cond b (Some e.1) (lookup (is_at (nat_cmp start)) es) ≡ Some piece → piece_with h (e ∷ es) ≡ Some piece)
      (is_at (nat_cmp start) e.0)
      (λ t is.
      let same : e.1 ≡ piece = cc (is) in
      ap (λ b. option_map (λ x. x.1) (cond b (Some e) (find (λ x. holds x.1.range h) es))) (ap (λ (p : Piece). holds p.range h) same ∙ held)
      ∙ ap Some same)
      (λ f is. on_bool (λ b. holds e.1.range h ≡ b → option_map (λ x. x.1) (cond b (Some e) (find (λ x. holds x.1.range h) es)) ≡ Some
      piece) (holds e.1.range h)
      (λ t at. let all = counted h e es true at in let more = looked_counted es piece is held in absurd (omega (all, more, once, arith)))
      (λ f at. let all = counted h e es false at in looked_found es piece is held (omega (all, once, arith))) refl)
      found

  -- the changed piece has it in its place
  pub set_found :
      (pieces : List (ℕ × Piece)) (piece changed : Piece) → lookup (is_at (nat_cmp start)) pieces ≡ Some piece → changed.range ≡ piece.range
      → holds piece.range h ≡ true → holding h pieces ≤ 1
      → piece_with h (set_value (is_at (nat_cmp start)) pieces changed) ≡ Some changed
  set_found [] piece changed found same held once = absurd (cc (found))
  set_found (e ∷ es) piece changed found same held once =
      on_bool (λ b. cond b (Some e.1) (lookup (is_at (nat_cmp start)) es) ≡ Some piece
      → piece_with h (cond b ((e.0, changed) ∷ es) (e ∷ set_value (is_at (nat_cmp start)) es changed)) ≡ Some changed)
      (is_at (nat_cmp start) e.0)
      (λ t is. ap (λ b. option_map (λ x. x.1) (cond b (Some (e.0, changed)) (find (λ x. holds x.1.range h) es)))
      (ap (λ r. holds r h) same ∙ held))
      (λ f is. on_bool (λ b. holds e.1.range h ≡ b → option_map (λ x. x.1)
      (cond b (Some e) (find (λ x. holds x.1.range h) (set_value (is_at (nat_cmp start)) es changed))) ≡ Some changed) (holds e.1.range h)
      (λ t at. let all = counted h e es true at in let more = looked_counted es piece is held in absurd (omega (all, more, once, arith)))
      (λ f at. let all = counted h e es false at in set_found es piece changed is same held (omega (all, once, arith))) refl)
      found

  -- a hash that it doesn't hold is where it was
  pub set_elsewhere :
      (pieces : List (ℕ × Piece)) (piece changed : Piece) → lookup (is_at (nat_cmp start)) pieces ≡ Some piece → changed.range ≡ piece.range
      → holds piece.range h ≡ false
      → piece_with h (set_value (is_at (nat_cmp start)) pieces changed) ≡ piece_with h pieces
  set_elsewhere [] piece changed found same apart = refl
  set_elsewhere (e ∷ es) piece changed found same apart =
      on_bool
      (λ b. cond b (Some e.1) (lookup (is_at (nat_cmp start)) es) ≡ Some piece
      → piece_with h (cond b ((e.0, changed) ∷ es) (e ∷ set_value (is_at (nat_cmp start)) es changed)) ≡ piece_with h (e ∷ es))
      (is_at (nat_cmp start) e.0)
      (λ t is.
      let there : e.1 ≡ piece = cc (is) in
      ap (λ b. option_map (λ x. x.1) (cond b (Some (e.0, changed)) (find (λ x. holds x.1.range h) es))) (ap (λ r. holds r h) same ∙ apart)
      ∙ ap (λ b. option_map (λ x. x.1) (cond b (Some e) (find (λ x. holds x.1.range h) es)))
      (sym (ap (λ (p : Piece). holds p.range h) there ∙ apart)))
      (λ f is. on_bool
      (λ b. option_map (λ x. x.1) (cond b (Some e) (find (λ x. holds x.1.range h) (set_value (is_at (nat_cmp start)) es changed)))
      ≡ option_map (λ x. x.1) (cond b (Some e) (find (λ x. holds x.1.range h) es))) (holds e.1.range h)
      (λ t. refl) (λ f. set_elsewhere es piece changed is same apart))
      found
