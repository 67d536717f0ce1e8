use Rattle.std.proofs.Common.{refl}
use Rattle.hash_ring.proofs.Thirds.{stepped_by}
use Rattle.hash_ring.proofs.ring.step_by_thirds.Goals as goal

pub returns : goal.returns
returns c = record {
  step =
      stepped_by c.args.points.now c.args.start c.args.third c.args.place c.index-points-start.result c.index-points-start-2.result _ _
      c.from.result c.from-2.result
      c.requires.rise c.requires.some c.requires.within refl refl c.from.ensures c.from-2.ensures;
}
