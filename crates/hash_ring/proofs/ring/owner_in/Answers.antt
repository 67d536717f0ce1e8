use Rattle.std.proofs.Common.{sym, subst}
use Rattle.hash_ring.specs.declared.point.Point.{Point}
use Rattle.hash_ring.specs.Owner.{IsOwner}
use Rattle.hash_ring.proofs.OwnerSearch.{owner_found}
use Rattle.hash_ring.proofs.ring.owner_in.Goals as goal

pub returns-clause-owner : goal.returns-clause-owner
returns-clause-owner c =
    let point = c.index-points-first.result in
    subst (λ (p : Point). IsOwner c.args.points.now c.args.hash p) (sym c.index-points-first.is)
    (owner_found c.args.points.now c.args.hash c.in_ok-last.last c.first_there-first.result point c.requires.in_order
    c.in_ok-last.ensures.found c.first_there-first.ensures.first c.first_there-first.ensures.within)
