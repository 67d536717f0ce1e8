use Rattle.std.proofs.Common.{sym}
use Rattle.hash_ring.proofs.WholeSilos.{by_first, without_first}
use Rattle.hash_ring.proofs.advance.has_silo.Goals as goal

pub returns-in-Some : goal.returns-in-Some
returns-in-Some c =
    by_first c.args.places.now c.args.points.now c.requires c.args.silo.now c.in-Some.first (sym c.in-Some.ensures) c.has_point.result
    c.has_point.ensures

pub returns-in-None : goal.returns-in-None
returns-in-None c = without_first c.args.places.now c.args.points.now c.requires c.args.silo.now (sym c.in-None.ensures)
