use Rattle.std.proofs.Common.{sym, subst, []}
use Rattle.host_activations.specs.Outstanding.{AreIndexed}
use Rattle.host_activations.proofs.FindsByGrain.{none_indexed}
use Rattle.host_activations.proofs.outstanding.OutstandingRequests.new.Goals as goal

pub invariant_of-result : goal.invariant_of-result
invariant_of-result c =
    subst (λ l. AreIndexed l c.new-2.result.entries) (sym c.new.ensures.empty)
    (subst (λ l. AreIndexed [] l) (sym c.new-2.ensures.empty) none_indexed)
