use Rattle.std.proofs.Common.{sym, ◌∙◌}
use Rattle.std.specs.BTreeMap.{is_at}
use Rattle.std.specs.Ordering.{nat_cmp}
use Rattle.host_activations.proofs.Entries.{remove_absent}
use Rattle.host_activations.proofs.FindsByGrain.{same_are, taken_are, taken_is}
use Rattle.host_activations.proofs.outstanding.OutstandingRequests.remove.Goals as goal

pub invariant_of-self : goal.invariant_of-self
invariant_of-self c =
    same_are c.self.inside.by_number.entries c.remove.new.self.entries c.self.inside.finds.entries c.self.invariant
    c.self.inside.finds.entries
    (c.in_default.ensures.entries ∙ remove_absent (is_at (nat_cmp c.args.number)) c.self.inside.by_number.entries
    (sym c.in_default.ensures.value)) (λ i. c.self.inside.finds.entries)

pub invariant_of-self-2 : goal.invariant_of-self-2
invariant_of-self-2 c =
    taken_are c.self.inside.by_number.entries c.self.inside.finds.entries c.self.invariant c.args.number c.in-Some.asked
    (sym c.in-Some.ensures.value)
    c.remove.new.self.entries c.take_find.new.finds.entries c.in-Some.ensures.entries (taken_is _ _ _ _ c.take_find.ensures)
