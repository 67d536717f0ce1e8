-- By computing.
use Rattle.std.proofs.Common.{refl}
use Rattle.ring_range.specs.Cut.{cut_parts}
use Rattle.range_moves.proofs.laws.examples_compute.Goals as goal

pub returns : goal.returns
unfolding cut_parts
returns c =
    record { arcs_opposite = refl; moves_opposite = refl; moves_tied = refl; moves_first = refl; arcs_last = refl; moves_last = refl }
