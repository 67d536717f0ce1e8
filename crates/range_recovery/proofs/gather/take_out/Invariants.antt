use Rattle.std.proofs.Common.{◌≡◌, vec_len}
use Rattle.range_recovery.specs.Gathered.{without_grains}
use Rattle.range_recovery.proofs.gather.take_out.Given as goal

abbrev pub invariant-loop-grain : goal.invariant-loop-grain
invariant-loop-grain l = without_grains l.grains.items l.gathered.entries ≡ without_grains l.initial.grains.items l.fn.gathered.entries

abbrev pub decreases-loop-grain : goal.decreases-loop-grain
decreases-loop-grain l = vec_len l.grains
