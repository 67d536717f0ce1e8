-- A text cut at the first byte that passes a test.
use Rattle.std.proofs.Common.{◌≡◌, ap, sym, ◌∙◌, ◌-◌, ℕ, ◌<◌, ◌≤◌, ◌+◌, ◌++◌, ◌∷◌, Bool, true, false, List, length, take, drop, get_or, arith}
use Rattle.std.specs.Prelude.{All}
use Rattle.std.specs.List.{position_or_len, before_first, after_first}
use Rattle.std.proofs.Math.ListN.{get_or-append}
use Rattle.std.proofs.Math.Seq.{get_or-append_seam, take-append_seam, take-length, drop-append-add}
use Rattle.std.proofs.lemmas.List.{length-append, length-drop, length-take-le, get_or-take}
use Rattle.std.proofs.lemmas.List.Sums.{position_or_len_is, fails_before_first}

-- A front whose bytes fail the test, and then one that passes.
pub record IsCutAt (passes : ℕ → Bool) (front : List ℕ) (mark : ℕ) : Type 0 where
  pub fails : All (λ byte. passes byte ≡ false) front
  pub ends : passes mark ≡ true

pub position-cut : (passes : ℕ → Bool) (front : List ℕ) (mark : ℕ) (rest : List ℕ) → IsCutAt passes front mark
    → position_or_len passes (front ++ mark ∷ rest) ≡ length front
position-cut passes front mark rest cut =
    let ends : get_or (front ++ mark ∷ rest) (length front) 0 ≡ mark = get_or-append_seam front mark rest 0 in
    position_or_len_is passes (front ++ mark ∷ rest) (length front) 0
    (let long = length-append front (mark ∷ rest) in omega arith)
    (λ k below. rw (get_or-append front (mark ∷ rest) 0 k below) (cut.fails k 0 below))
    (λ _. rw ends cut.ends)

pub before_first-cut : (passes : ℕ → Bool) (front : List ℕ) (mark : ℕ) (rest : List ℕ) → IsCutAt passes front mark
    → before_first passes (front ++ mark ∷ rest) ≡ front
before_first-cut passes front mark rest cut =
    ap (λ n. take n (front ++ mark ∷ rest)) (position-cut passes front mark rest cut) ∙ take-append_seam front (mark ∷ rest)

pub after_first-cut : (passes : ℕ → Bool) (front : List ℕ) (mark : ℕ) (rest : List ℕ) → IsCutAt passes front mark
    → after_first passes (front ++ mark ∷ rest) ≡ rest
after_first-cut passes front mark rest cut =
    ap (λ n. drop (n + 1) (front ++ mark ∷ rest)) (position-cut passes front mark rest cut) ∙ drop-append-add front (mark ∷ rest) 1

-- what stands before the first byte that passes
pub front_fails : (passes : ℕ → Bool) (bytes : List ℕ) → position_or_len passes bytes ≤ length bytes
    → All (λ byte. passes byte ≡ false) (before_first passes bytes)
front_fails passes bytes within = λ k d below.
    let long = length-take-le (position_or_len passes bytes) bytes within in
    let before : k < position_or_len passes bytes = omega arith in
    rw (get_or-take (position_or_len passes bytes) bytes k d before) (fails_before_first passes bytes k d before)

-- what the code reads as `&bytes[start..]`
pub rest_from : (bytes : List ℕ) (start : ℕ) → take (length bytes - start) (drop start bytes) ≡ drop start bytes
rest_from bytes start = ap (λ n. take n (drop start bytes)) (sym (length-drop start bytes)) ∙ take-length (drop start bytes)
