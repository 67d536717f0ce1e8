use Rattle.std.proofs.Common.{◌<◌, ◌-◌, ◌∙◌, ap, length, arith}
use Rattle.std.proofs.lemmas.List.{get_or_default}
use Rattle.hash_ring.specs.declared.point.Point.{Point}
use Rattle.hash_ring.proofs.Rooms.{owns_first, owns_none}
use Rattle.hash_ring.proofs.ranges.is_first_there.Goals as goal

pub returns-then-at-eq0 : goal.returns-then-at-eq0
returns-then-at-eq0 c =
    λ d. owns_first c.args.points.now c.args.at d c.requires.in_order c.requires.rise c.requires.on_circle c.requires.within
    (λ e some. absurd (omega arith))

pub returns-then-points-at : goal.returns-then-points-at
returns-then-points-at c = λ d.
    let points = c.args.points.now in
    let at = c.args.at in
    let within : at < length points = c.requires.within in
    let before : at - 1 < length points = omega arith in
    owns_none points at d c.requires.in_order c.requires.on_circle within (omega arith)
    (ap (λ (p : Point). p.place) (get_or_default points (at - 1) d c.index-points-at.result before) ∙ c.if-points-at.true
    ∙ ap (λ (p : Point). p.place) (get_or_default points at c.index-points-at-2.result d within))

pub returns : goal.returns
returns c = λ d.
    let points = c.args.points.now in
    let at = c.args.at in
    let within : at < length points = c.requires.within in
    let before : at - 1 < length points = omega arith in
    owns_first points at d c.requires.in_order c.requires.rise c.requires.on_circle within (λ e some same.
    c.if-points-at.false (ap (λ (p : Point). p.place) (get_or_default points (at - 1) c.index-points-at.result e before) ∙ same
    ∙ ap (λ (p : Point). p.place) (get_or_default points at e c.index-points-at-2.result within)))
