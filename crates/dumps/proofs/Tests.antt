-- Tests that all have to be passed, however they are grouped.
use Rattle.std.proofs.Common.{◌≡◌, Bool, true, false, refl, ap}
use Rattle.std.specs.Prelude.{◌&&◌}

and_true : (a : Bool) → (a && true) ≡ a
and_true true = refl
and_true false = refl

pub two : (a b : Bool) → (a && (b && true)) ≡ (a && b)
two a b = ap (λ t. a && t) (and_true b)

pub three : (a b c : Bool) → (a && (b && (c && true))) ≡ ((a && b) && c)
three true b c = two b c
three false b c = refl

pub four : (a b c d : Bool) → (a && (b && (c && (d && true)))) ≡ (((a && b) && c) && d)
four true b c d = three b c d
four false b c d = refl

pub five : (a b c d e : Bool) → (a && (b && (c && (d && (e && true))))) ≡ ((((a && b) && c) && d) && e)
five true b c d e = four b c d e
five false b c d e = refl

pub six : (a b c d e f : Bool) → (a && (b && (c && (d && (e && (f && true)))))) ≡ (((((a && b) && c) && d) && e) && f)
six true b c d e f = five b c d e f
six false b c d e f = refl

pub seven : (a b c d e f g : Bool) → (a && (b && (c && (d && (e && (f && (g && true))))))) ≡ ((((((a && b) && c) && d) && e) && f) && g)
seven true b c d e f g = six b c d e f g
seven false b c d e f g = refl

-- two pairs, and two more
pub two_pairs : (a b c d e f : Bool) → (a && (b && (c && (d && (e && (f && true)))))) ≡ ((((a && b) && (c && d)) && e) && f)
two_pairs true true c d e f = four c d e f
two_pairs true false c d e f = refl
two_pairs false b c d e f = refl
