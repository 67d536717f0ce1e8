use Rattle.std.proofs.Common.{subst}
use Rattle.std.specs.List.Sorted.{IsStrictlySortedBy}
use Rattle.std.specs.Map.{keys_of}
use Rattle.std.specs.Ordering.{nat_cmp}
use Rattle.directory_rules.specs.State.{Host}
use Rattle.directory_rules.specs.Laws.{AreNumbered}
use Rattle.host_activations.proofs.Counted.{are_numbered}
use Rattle.host_activations.proofs.Finds.{finds_sorted}
use Rattle.host_activations.proofs.host.Host.whole.Goals as goal

pub returns-clause-numbered : goal.returns-clause-numbered
returns-clause-numbered c =
    subst AreNumbered c.self.view_is
    (are_numbered c.self.inside.silo c.self.inside.next_number c.self.inside.held.next_count c.self.inside.held.entries
    c.self.inside.outstanding.entries c.self.invariant.are_held)

pub returns-clause-finds : goal.returns-clause-finds
returns-clause-finds c =
    subst (λ (h : Host). IsStrictlySortedBy nat_cmp (keys_of h.finds)) c.self.view_is
    (finds_sorted c.self.inside.outstanding.entries c.self.invariant.are_held.in_order)
