-- The order of points is total, and points of one place in it are one point.
use Rattle.std.proofs.Common.{◌≡◌, ℕ, ap}
use Rattle.std.specs.Bool.{Decides}
use Rattle.std.specs.Cmp.{IsTotalOrder}
use Rattle.std.specs.Ordering.{nat_cmp, ordering_then}
use Rattle.std.proofs.lemmas.Bool.Decides.{Decides-like, Decides-and, Decides-eqb}
use Rattle.std.proofs.lemmas.Cmp.{then_total, on_total, nat_cmp_total}
use Rattle.std.proofs.lemmas.Map.Lookups.{CmpEqualImpliesEq, exact_unsigned}
use Rattle.silo_address.specs.Silo.{Silo, silo_cmp}
use Rattle.silo_address.proofs.Order.{silo_cmp_total, silo_cmp_exact, both_tie}
use Rattle.silo_address.proofs.Same.{Decides-silo}
use Rattle.hash_ring.specs.declared.point.Point.{Point}
use Rattle.hash_ring.specs.Point.{point_cmp, point_eq}

abbrev point_at : ℕ → Silo → ℕ → Point
point_at place silo index = record { place = place; silo = silo; index = index }

pub same_point : (a b : Point) → a.place ≡ b.place → a.silo ≡ b.silo → a.index ≡ b.index → a ≡ b
same_point a b place silo index = λ i. point_at (place i) (silo i) (index i)

pub point_cmp_total : IsTotalOrder point_cmp
point_cmp_total =
    then_total (on_total (λ p. p.place) nat_cmp_total)
    (then_total (on_total (λ p. p.silo) silo_cmp_total) (on_total (λ p. p.index) nat_cmp_total))

pub point_cmp_exact : CmpEqualImpliesEq point_cmp
point_cmp_exact a b tied =
    let place = both_tie (nat_cmp a.place b.place) (ordering_then (silo_cmp a.silo b.silo) (nat_cmp a.index b.index)) tied in
    let silo = both_tie (silo_cmp a.silo b.silo) (nat_cmp a.index b.index) place.1 in
    same_point a b (exact_unsigned a.place b.place place.0) (silo_cmp_exact a.silo b.silo silo.0) (exact_unsigned a.index b.index silo.1)

pub Decides-point : (a b : Point) → Decides (point_eq a b) (a ≡ b)
Decides-point a b =
    Decides-like _ (λ e. same_point a b e.0 e.1.0 e.1.1)
    (λ e. (ap (λ (p : Point). p.place) e, (ap (λ (p : Point). p.silo) e, ap (λ (p : Point). p.index) e)))
    (Decides-and _ _ (Decides-eqb a.place b.place) (Decides-and _ _ (Decides-silo a.silo b.silo) (Decides-eqb a.index b.index)))
