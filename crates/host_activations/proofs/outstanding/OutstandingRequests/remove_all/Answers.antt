use Rattle.std.proofs.Common.{◌≡◌, sym, ap, ◌∙◌, ◌∷◌, cond, is_some, None}
use Rattle.host_activations.specs.Asked.{asked_under}
use Rattle.host_activations.proofs.Moved.{take_first}
use Rattle.host_activations.proofs.outstanding.OutstandingRequests.remove_all.Goals as goal

pub loop-number-preserved : goal.loop-number-preserved
loop-number-preserved c =
    let taken : c.loop-number.number-iterator ≡ (c.in-Some.number.now, c.in-Some.field-0-1.now) ∷ c.next.new.self = c.in-Some.ensures.steps in
    take_first c.in-Some.number.now c.in-Some.field-0-1.now c.next.new.self c.loop-number.self.entries c.remove.new.self.entries
    (λ n. cond (is_some (asked_under n c.args.gone.now.entries)) None (asked_under n c.args.self.now.entries)) c.in_order.ensures
    c.remove.ensures.entries
    (λ n. ap (λ l. cond (is_some (asked_under n l)) None (asked_under n c.loop-number.self.entries)) (sym taken)
    ∙ c.loop-number.invariant n)

pub returns : goal.returns
returns c = λ n.
    ap (λ l. cond (is_some (asked_under n l)) None (asked_under n c.loop-number.self.entries)) (sym c.in-None.ensures.steps.0)
    ∙ c.loop-number.invariant n
