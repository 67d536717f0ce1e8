use Rattle.std.proofs.Common.{ap, ◌∙◌, rules}
use Rattle.host_activations.specs.Asked.{asked_under, find_in}
use Rattle.host_activations.specs.Outstanding.{OutstandingValue}
use Rattle.host_activations.proofs.FindsByGrain.{put_are, put_is, same_are, taken_is, undone, without_find}
use Rattle.host_activations.proofs.outstanding.OutstandingRequests.insert.Goals as goal

pub invariant_of-self : goal.invariant_of-self
invariant_of-self c =
    same_are c.self.inside.by_number.entries c.self.inside.by_number.entries c.self.inside.finds.entries c.self.invariant
    c.put_find.new.finds.entries (λ i. c.self.inside.by_number.entries) c.in_err-put_find.ensures.unchanged

pub invariant_of-self-in-Ok : goal.invariant_of-self-in-Ok
invariant_of-self-in-Ok c =
    put_are c.self.inside.by_number.entries c.self.inside.finds.entries c.self.invariant c.args.number c.args.asked.now
    (ap (λ (v : OutstandingValue). asked_under c.args.number v.entries) c.self.view_is ∙ c.requires.free) (search rules)
    c.insert.new.self.entries c.put_find.new.finds.entries c.in-Ok.ensures.entries (put_is _ _ _ _ c.in_ok-put_find.ensures.put)

pub invariant_of-self-in-Err : goal.invariant_of-self-in-Err
invariant_of-self-in-Err c =
    same_are c.self.inside.by_number.entries c.insert.new.self.entries c.self.inside.finds.entries c.self.invariant
    c.take_find.new.finds.entries c.in-Err.ensures.err
    (taken_is _ _ _ _ c.take_find.ensures
    ∙ ap (without_find (find_in c.args.asked.now) c.args.number) (put_is _ _ _ _ c.in_ok-put_find.ensures.put)
    ∙ undone c.self.inside.by_number.entries c.self.inside.finds.entries c.self.invariant c.args.number c.args.asked.now
    (ap (λ (v : OutstandingValue). asked_under c.args.number v.entries) c.self.view_is ∙ c.requires.free))

pub returns-in-Err-clause-unchanged : goal.returns-in-Err-clause-unchanged
returns-in-Err-clause-unchanged c = (λ i. record { entries = c.in-Err.ensures.err i }) ∙ c.self.view_is
