use Rattle.host_activations.proofs.ByCount.{AreCounted}
use Rattle.host_activations.proofs.activations.order.by_count.Given as goal

abbrev pub invariant-loop-index : goal.invariant-loop-index
invariant-loop-index l = AreCounted l.map l.index l.counted.entries
