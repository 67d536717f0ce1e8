use Rattle.std.proofs.lemmas.List.Sorted.{IsPermutation-trans}
use Rattle.grain_partition.proofs.ListsByWalk.{listed_sorted}
use Rattle.grain_partition.proofs.listed.listed.Goals as goal

pub returns : goal.returns
returns c =
    listed_sorted c.args.hashing c.args.view.now c.args.pieces.now.entries c.args.range.now c.sort_unstable.new.self.items
    (IsPermutation-trans _ _ _ c.in_ok-entries.ensures c.sort_unstable.ensures.permutation) c.sort_unstable.ensures.sorted
