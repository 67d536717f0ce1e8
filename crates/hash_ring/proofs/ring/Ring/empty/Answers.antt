use Rattle.std.proofs.Common.{sym, subst}
use Rattle.std.specs.List.Sorted.{IsStrictlySortedBy}
use Rattle.std.proofs.lemmas.List.Elements.{All-nil}
use Rattle.hash_ring.specs.Point.{IsOnCircle}
use Rattle.hash_ring.specs.Ring.{IsRing}
use Rattle.hash_ring.proofs.ring.Ring.empty.Goals as goal

-- no point stands out of order or off the circle
pub invariant_of-result : goal.invariant_of-result
unfolding IsStrictlySortedBy
invariant_of-result c =
    subst (λ points. IsRing (record { version = 0; points = points })) (sym c.new.ensures.items)
    (record { in_order = tt; on_circle = All-nil IsOnCircle })
