-- What is hashed into a range stands before its end.
use Rattle.std.proofs.Common.{arith, ◌≡◌, sym, ap, ◌∙◌, refl, ℕ, ◌+◌, ◌<◌, List, [], ◌∷◌}
use Rattle.std.proofs.lemmas.Bool.Decides.{nat_tests}
use Rattle.std.specs.Prelude.{Bool, true, false, cond, filter, nat_lt}
use Rattle.ring_range.specs.Range.{Range, IsRange, circle, holds}
use Rattle.hash_ring.specs.declared.Hashing.{Hashing}
use Rattle.hash_ring.specs.Hash.{hash_grain}
use Rattle.directory_rules.specs.State.{Table}
use Rattle.hash_ring.proofs.HashesBelow.{grain_below}

stays_within : {K X : Type 0} (p q : K × X → Bool) → ((e : K × X) → p e ≡ true → q e ≡ true) → (es : List (K × X))
    → filter p (filter q es) ≡ filter p es
stays_within p q so [] = refl
stays_within p q so (e ∷ es) = by (q e) (p e) refl refl (stays_within p q so es)
  where
    by : (b c : Bool) → q e ≡ b → p e ≡ c → filter p (filter q es) ≡ filter p es
        → filter p (cond b (e ∷ filter q es) (filter q es)) ≡ cond (p e) (e ∷ filter p es) (filter p es)
    by true c is at rest = ap (λ l. cond (p e) (e ∷ l) l) rest
    by false true is at rest = let no : true ≡ false = sym (so e at) ∙ is in cc
    by false false is at rest = rest ∙ ap (λ b. cond b (e ∷ filter p es) (filter p es)) (sym at)

pub within_before : (hashing : Hashing) (range : Range) (end : ℕ) → IsRange range → end ≡ range.start + range.size → (table : Table)
    → filter (λ e. holds range (hash_grain hashing e.0)) (filter (λ e. nat_lt (hash_grain hashing e.0) end) table) ≡ filter
    (λ e. holds range (hash_grain hashing e.0)) table
within_before hashing range end is ends =
    stays_within (λ e. holds range (hash_grain hashing e.0)) (λ e. nat_lt (hash_grain hashing e.0) end)
    (λ e has. before (hash_grain hashing e.0) (grain_below hashing e.0) has)
  where
    before : (hash : ℕ) → hash < circle → holds range hash ≡ true → nat_lt hash end ≡ true
    before hash below has = let start = is.start_below in let size = is.size_within in grind (arith, nat_tests)
