use Rattle.std.proofs.lemmas.Slice.Eq.{slice_eq-Decides}
use Rattle.ring_range.proofs.Same.{Decides-range}
use Rattle.directory_letters.proofs.letter.same_ranges.Goals as goal

pub returns : goal.returns
returns c = slice_eq-Decides Decides-range c.args.one.now c.args.other.now c.eq.result c.eq.ensures
