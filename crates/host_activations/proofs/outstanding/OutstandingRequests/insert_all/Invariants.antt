use Rattle.host_activations.proofs.Moved.{ArePut}
use Rattle.host_activations.proofs.outstanding.OutstandingRequests.insert_all.Given as goal

-- those that are left are still to come
abbrev pub invariant-loop-number : goal.invariant-loop-number
invariant-loop-number l = ArePut l.number-iterator l.self.entries l.more.entries l.initial.self.entries
