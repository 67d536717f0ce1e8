-- Orderings: the first of two that differs decides, and what tests of them tell.
use Rattle.std.proofs.Common.{◌≡◌, refl, true, false, ℕ, ◌<◌, ◌≤◌, arith}
use Rattle.std.specs.BTreeMap.{is_at}
use Rattle.std.specs.Ordering.{is_eq, is_gt, is_lt, nat_cmp, ordering_reverse, ordering_then}
use Rattle.std.specs.declared.cmp.Ordering.{Ordering}
use Rattle.std.specs.declared.cmp.Ordering.TheVariants.{Less, Equal, Greater}
use Rattle.std.proofs.lemmas.Bool.Decides.{nat_tests}

pub Equal-from : (r : Ordering) → is_eq r ≡ true → r ≡ Equal
Equal-from Less h = cc
Equal-from Equal h = refl
Equal-from Greater h = cc

-- not above, and not below
pub level : (r : Ordering) → is_gt r ≡ false → is_gt (ordering_reverse r) ≡ false → r ≡ Equal
level Less h k = cc
level Equal h k = refl
level Greater h k = cc

pub then_assoc : (r s t : Ordering) → ordering_then r (ordering_then s t) ≡ ordering_then (ordering_then r s) t
then_assoc Less s t = refl
then_assoc Equal s t = refl
then_assoc Greater s t = refl

pub first_upto : (r s : Ordering) → is_gt (ordering_then r s) ≡ false → is_gt r ≡ false
first_upto Less s h = refl
first_upto Equal s h = refl
first_upto Greater s h = h

pub first_from : (r s : Ordering) → is_lt (ordering_then r s) ≡ false → is_lt r ≡ false
first_from Less s h = h
first_from Equal s h = refl
first_from Greater s h = refl

pub first_of_less : (r s : Ordering) → ordering_then r s ≡ Less → is_gt r ≡ false
first_of_less Less s less = refl
first_of_less Equal s less = refl
first_of_less Greater s less = cc

-- ---- Numbers.
pub less_is : (a b : ℕ) → a < b → nat_cmp a b ≡ Less
less_is a b lt = grind (arith, nat_tests)

pub upto_nat : (a b : ℕ) → a ≤ b → is_gt (nat_cmp a b) ≡ false
upto_nat a b le = grind (arith, nat_tests)

pub at_itself : (n : ℕ) → is_at (nat_cmp n) n ≡ true
at_itself n = grind (arith, nat_tests)

pub at_lower : (n lower : ℕ) → lower < n → is_at (nat_cmp n) lower ≡ false
at_lower n lower lt = grind (arith, nat_tests)
