use Rattle.std.proofs.Common.{◌<◌, ◌-◌, ◌∙◌, ap, length, arith}
use Rattle.std.proofs.lemmas.List.{get_or_default}
use Rattle.hash_ring.specs.declared.point.Point.{Point}
use Rattle.hash_ring.proofs.OwnerSearch.{first_alone}
use Rattle.hash_ring.proofs.ring.first_there.Goals as goal

pub returns-then-points-last-clause-first : goal.returns-then-points-last-clause-first
returns-then-points-last-clause-first c =
    let points = c.args.points.now in
    let last = c.args.last in
    let within : last < length points = c.requires.within in
    let before : last - 1 < length points = omega arith in
    first_alone points last c.requires.rise within (λ d some same.
    c.if-points-last.true
    (ap (λ (p : Point). p.place) (get_or_default points (last - 1) c.index-points-last-2.result d before)
    ∙ same
    ∙ ap (λ (p : Point). p.place) (get_or_default points last d c.index-points-last.result within)))
