use Rattle.std.proofs.Common.{rules}
use Rattle.seal_snapshot.proofs.gatherings.Gathering.agrees.Goals as goal

pub returns-then-whole-pages : goal.returns-then-whole-pages
returns-then-whole-pages c = search rules
