use Rattle.host_activations.proofs.ByCount.{AreTold}
use Rattle.host_activations.proofs.activations.order.at_indices.Given as goal

abbrev pub invariant-loop-index : goal.invariant-loop-index
invariant-loop-index l = AreTold l.map l.list.items l.index-iterator
