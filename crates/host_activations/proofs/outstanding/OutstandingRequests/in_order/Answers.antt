use Rattle.std.proofs.Common.{subst}
use Rattle.std.specs.List.Sorted.{IsStrictlySortedBy}
use Rattle.std.specs.Map.{keys_of}
use Rattle.std.specs.Ordering.{nat_cmp}
use Rattle.host_activations.specs.Outstanding.{OutstandingValue}
use Rattle.host_activations.proofs.outstanding.OutstandingRequests.in_order.Goals as goal

pub returns : goal.returns
returns c = subst (λ (v : OutstandingValue). IsStrictlySortedBy nat_cmp (keys_of v.entries)) c.self.view_is c.self.invariant.in_order
