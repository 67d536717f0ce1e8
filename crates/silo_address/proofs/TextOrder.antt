-- Texts of grains whose kinds have one length compare as the kinds, and then the keys.
use Rattle.std.proofs.Common.{◌≡◌, ℕ, List, [], ◌∷◌, ◌++◌, length, refl, ◌∙◌, ap, arith}
use Rattle.std.specs.Cmp.Lexicographic.{slice_cmp}
use Rattle.std.specs.Ordering.{nat_cmp, ordering_then}
use Rattle.std.specs.declared.cmp.Ordering.{Ordering}
use Rattle.std.specs.declared.cmp.Ordering.TheVariants.{Less, Equal, Greater}
use Rattle.silo_address.specs.Marks.{slash}
use Rattle.silo_address.specs.Grain.{Grain, grain_text, grain_cmp}

-- three orders, one after the other
then_then : (q r s : Ordering) → ordering_then q (ordering_then r s) ≡ ordering_then (ordering_then q r) s
then_then Less r s = refl
then_then Equal r s = refl
then_then Greater r s = refl

by_parts : (k l x y : List ℕ) → length k ≡ length l
    → slice_cmp nat_cmp (k ++ slash ∷ x) (l ++ slash ∷ y) ≡ ordering_then (slice_cmp nat_cmp k l) (slice_cmp nat_cmp x y)
by_parts [] [] x y same = refl
by_parts [] (b ∷ l) x y same = absurd (omega arith)
by_parts (a ∷ k) [] x y same = absurd (omega arith)
by_parts (a ∷ k) (b ∷ l) x y same =
    ap (λ o. ordering_then (nat_cmp a b) o) (by_parts k l x y (omega arith))
    ∙ then_then (nat_cmp a b) (slice_cmp nat_cmp k l) (slice_cmp nat_cmp x y)

pub text_order : (a b : Grain) → length a.kind ≡ length b.kind → slice_cmp nat_cmp (grain_text a) (grain_text b) ≡ grain_cmp a b
text_order a b same = by_parts a.kind b.kind a.key b.key same
