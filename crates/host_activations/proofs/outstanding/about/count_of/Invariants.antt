use Rattle.std.proofs.Common.{◌≡◌, ◌+◌, length}
use Rattle.host_activations.proofs.outstanding.about.count_of.Given as goal

-- with those that are left it is all
abbrev pub invariant-finds : goal.invariant-finds
invariant-finds l = l.count + length l._find-iterator ≡ length l.fn.finds
