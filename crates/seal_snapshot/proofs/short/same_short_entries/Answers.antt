use Rattle.std.proofs.lemmas.Slice.Eq.{slice_eq-Decides}
use Rattle.silo_address.proofs.Same.{Decides-entry}
use Rattle.seal_snapshot.proofs.short.same_short_entries.Goals as goal

pub returns : goal.returns
returns c = slice_eq-Decides Decides-entry c.args.one.now c.args.other.now c.eq.result c.eq.ensures
