use Rattle.std.proofs.Common.{◌≤◌, ◌<◌, ◌-◌, ◌∙◌, ap, get_or, length, arith}
use Rattle.ring_range.specs.Range.{circle}
use Rattle.hash_ring.specs.declared.point.Point.{Point}
use Rattle.hash_ring.proofs.Rooms.{room_to_next, room_round}
use Rattle.hash_ring.proofs.ranges.room_from.Goals as goal

pub returns-then-next-points-clause-room : goal.returns-then-next-points-clause-room
returns-then-next-points-clause-room c =
    c.from.ensures
    ∙ room_to_next c.args.points.now c.args.place c.up_to-next.result c.requires.rise c.requires.on_circle c.if-next-points.true
    c.up_to-next.ensures.split c.index-points-next.result

pub returns-else-next-points-clause-room : goal.returns-else-next-points-clause-room
returns-else-next-points-clause-room c =
    let points = c.args.points.now in
    let d : Point = c.index-points-0.result in
    let within : c.args.at < length points = c.requires.within in
    let upto : (get_or points 0 d).place ≤ (get_or points c.args.at d).place = c.requires.rise 0 c.args.at d (omega arith) within in
    let is = c.requires.is d in
    let first : (get_or points 0 d).place ≤ c.args.place = omega arith in
    ap (λ n. circle - n) c.from-else-next-points.ensures
    ∙ room_round points c.args.place c.up_to-next.result c.requires.rise c.requires.on_circle (omega arith) (omega arith)
    c.if-next-points.false d first c.up_to-next.ensures.split
