-- A list that is gone through by its indices.
use Rattle.std.proofs.Common.{◌≡◌, ◌∙◌, ℕ, suc, ◌+◌, List, ◌∷◌, drop, slice_get, Some, arith}
use Rattle.std.proofs.Math.Seq.{drop-cons}
use Rattle.std.proofs.lemmas.Option.{get_or_from_slice_get, slice_get_within}

-- what stands at an index is the first of those that are left there
pub left_from : {X : Type 0} (xs : List X) (i : ℕ) (x : X) → slice_get xs i ≡ Some x → drop i xs ≡ x ∷ drop (i + 1) xs
left_from xs i x there = drop-cons xs i x (slice_get_within xs i x there) ∙ (λ j. get_or_from_slice_get xs i x x there j ∷ drop (next j) xs)
  where
    next : suc i ≡ i + 1
    next = omega arith
