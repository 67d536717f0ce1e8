use Rattle.std.proofs.Common.{sym}
use Rattle.seal_snapshot.proofs.Searches.{has_at, has_none}
use Rattle.seal_snapshot.proofs.shelf.Shelf.has.Goals as goal

pub returns-in-Some : goal.returns-in-Some
returns-in-Some c =
    sym (has_at c.args.version c.args.range.now c.args.asker.now c.args.self.now c.in-Some.field-0 c.in-Some.ensures.found.within
    c.in-Some.ensures.found.passes)

pub returns-in-None : goal.returns-in-None
returns-in-None c = sym (has_none c.args.version c.args.range.now c.args.asker.now c.args.self.now c.in-None.ensures.absent)
