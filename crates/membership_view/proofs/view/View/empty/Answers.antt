use Rattle.std.proofs.Common.{sym, subst, rules}
use Rattle.std.specs.List.Sorted.{IsStrictlySortedBy}
use Rattle.std.specs.Map.{keys_of}
use Rattle.silo_address.specs.Silo.{silo_cmp}
use Rattle.membership_view.proofs.view.View.empty.Goals as goal

-- no row is out of order
pub invariant_of-result : goal.invariant_of-result
unfolding IsStrictlySortedBy
invariant_of-result c = subst (λ rows. IsStrictlySortedBy silo_cmp (keys_of rows)) (sym c.new.ensures.items) tt

pub returns : goal.returns
returns c = search rules
