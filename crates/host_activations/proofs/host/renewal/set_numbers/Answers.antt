use Rattle.std.proofs.Common.{◌≡◌, sym, ap, ◌∙◌, ◌∷◌}
use Rattle.host_activations.specs.declared.asked.OutstandingRequest.{OutstandingRequest}
use Rattle.host_activations.specs.Renewal.{with_number, with_numbers}
use Rattle.host_activations.proofs.NewNumbers.{set_is, with_find}
use Rattle.host_activations.proofs.host.renewal.set_numbers.Goals as goal

pub loop-number-preserved : goal.loop-number-preserved
loop-number-preserved c =
    let taken : c.loop-number.number-iterator ≡ (c.in-Some.number.now, c.in-Some.asked.now) ∷ c.next.new.self = c.in-Some.ensures.steps in
    let same : with_number c.loop-number.held.entries (c.in-Some.number.now, c.in-Some.asked.now) ≡ c.loop-number.held.entries =
    ap (λ (a : OutstandingRequest). with_number c.loop-number.held.entries (c.in-Some.number.now, a)) c.in_default.is
    ∙ with_find c.loop-number.held.entries c.in-Some.number.now c.in_default.field-0 in
    record {
      all =
          ap (λ l. with_numbers c.next.new.self l) (sym same) ∙ ap (λ l. with_numbers l c.loop-number.held.entries) (sym taken)
          ∙ c.loop-number.invariant.all;
      count = c.loop-number.invariant.count;
    }

pub loop-number-preserved-in-Activation : goal.loop-number-preserved-in-Activation
loop-number-preserved-in-Activation c =
    let taken : c.loop-number.number-iterator ≡ (c.in-Some.number.now, c.in-Some.asked.now) ∷ c.next.new.self = c.in-Some.ensures.steps in
    let set = set_is c.in-Some.number.now c.in-Activation.grain c.loop-number.held.entries c.set_number.new.map.entries c.set_number.ensures.apart c.set_number.ensures.set in
    record {
      all =
          ap (λ l. with_numbers c.next.new.self l) (set ∙ ap
          (λ (a : OutstandingRequest). with_number c.loop-number.held.entries (c.in-Some.number.now, a)) (sym c.in-Activation.is))
          ∙ ap (λ l. with_numbers l c.loop-number.held.entries) (sym taken) ∙ c.loop-number.invariant.all;
      count = c.set_number.ensures.count ∙ c.loop-number.invariant.count;
    }

pub returns-clause-set : goal.returns-clause-set
returns-clause-set c = ap (λ l. with_numbers l c.loop-number.held.entries) (sym c.in-None.ensures.steps.0) ∙ c.loop-number.invariant.all
