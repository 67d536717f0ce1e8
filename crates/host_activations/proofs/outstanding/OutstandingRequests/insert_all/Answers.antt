use Rattle.std.proofs.Common.{◌≡◌, sym, subst, ap, ◌∙◌, ◌∷◌, cond, is_some, None}
use Rattle.host_activations.specs.Asked.{asked_under}
use Rattle.host_activations.specs.Outstanding.{OutstandingValue}
use Rattle.host_activations.proofs.Moved.{ArePut, all_put, first_free, none_put, put_away, put_first}
use Rattle.host_activations.proofs.outstanding.OutstandingRequests.insert_all.Goals as goal

pub loop-number-init : goal.loop-number-init
loop-number-init c =
    subst (λ l. ArePut l c.args.self.now.entries c.args.more.now.entries c.args.self.now.entries) (sym (c.into_iter-number-iterator.ensures.into_iter_gives.0 ∙ c.by_number-number-items.ensures))
    (none_put c.args.more.now.entries c.args.self.now.entries c.in_order-2.ensures c.requires.free)

pub insert-requires : goal.insert-requires
insert-requires c =
    let taken : c.loop-number.number-iterator ≡ (c.in-Some.number.now, c.in-Some.asked.now) ∷ c.next.new.self = c.in-Some.ensures.steps in
    record {
      free =
          first_free c.in-Some.number.now c.in-Some.asked.now c.next.new.self c.loop-number.self.entries c.args.more.now.entries
          c.args.self.now.entries
          (subst (λ l. ArePut l c.loop-number.self.entries c.args.more.now.entries c.args.self.now.entries) taken c.loop-number.invariant);
    }

pub loop-number-preserved : goal.loop-number-preserved
loop-number-preserved c =
    let taken : c.loop-number.number-iterator ≡ (c.in-Some.number.now, c.in-Some.asked.now) ∷ c.next.new.self = c.in-Some.ensures.steps in
    put_first c.in-Some.number.now c.in-Some.asked.now c.next.new.self c.loop-number.self.entries c.args.more.now.entries
    c.args.self.now.entries c.insert.new.self.entries
    (subst (λ l. ArePut l c.loop-number.self.entries c.args.more.now.entries c.args.self.now.entries) taken c.loop-number.invariant)
    c.in-Ok.ensures.entries

pub returns-in-Err-clause-unchanged : goal.returns-in-Err-clause-unchanged
returns-in-Err-clause-unchanged c = λ i. record {
  entries =
      put_away c.loop-number.number-iterator c.loop-number.self.entries c.args.more.now.entries c.args.self.now.entries
      c.remove_all.new.self.entries c.loop-number.invariant c.requires.free c.in_order.ensures c.in_order-in-Err.ensures
      (λ n. c.remove_all.ensures n
      ∙ (λ j. cond (is_some (asked_under n (c.by_number.ensures j))) None
      (ap (λ (v : OutstandingValue). asked_under n v.entries) c.in-Err.ensures.unchanged j))) i;
}

pub returns-clause-put : goal.returns-clause-put
returns-clause-put c =
    all_put c.loop-number.self.entries c.args.more.now.entries c.args.self.now.entries
    (subst (λ l. ArePut l c.loop-number.self.entries c.args.more.now.entries c.args.self.now.entries) c.in-None.ensures.steps.0
    c.loop-number.invariant)
