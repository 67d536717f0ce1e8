use Rattle.std.proofs.Common.{◌≡◌, ap, ◌∙◌, ◌+◌, arith}
use Rattle.host_activations.specs.Renewal.{with_numbers}
use Rattle.host_activations.proofs.Fields.{meant}
use Rattle.host_activations.proofs.Renewals.{enough, held_is, now, renewal_is, renewed_is, renewed_means}
use Rattle.host_activations.proofs.host.Host.renew.Goals as goal

pub overflow_add-self : goal.overflow_add-self
overflow_add-self c =
    let few = enough c.self.inside c.self.invariant c.args.self.now c.self.view_is c.requires.numbers in
    omega (arith, few, c.len-count.ensures)

pub invariant_of-self : goal.invariant_of-self
invariant_of-self c =
    let made : c.renewal.inside.numbered.entries ≡ now c.self.inside c.self.invariant = c.renewal.view_is ∙ c.requires.own ∙ renewal_is c.self.inside c.self.invariant c.args.self.now c.self.view_is in
    renewed_is c.self.inside c.self.invariant c.args.self.now c.self.view_is c.requires.numbers c.set_numbers.new.held.entries
    c.renewal.inside.numbered.entries c.len-count.result
    (c.set_numbers.ensures.set ∙ ap (λ l. with_numbers l c.self.inside.held.entries) (c.by_number.ensures ∙ made)
    ∙ held_is c.self.inside c.self.invariant) made c.len-count.ensures

pub returns : goal.returns
returns c =
    let made : c.renewal.inside.numbered.entries ≡ now c.self.inside c.self.invariant = c.renewal.view_is ∙ c.requires.own ∙ renewal_is c.self.inside c.self.invariant c.args.self.now c.self.view_is in
    (λ i. meant c.self.inside.silo (c.self.inside.next_number + c.len-count.result) (c.set_numbers.ensures.count i)
    c.set_numbers.new.held.entries c.renewal.inside.numbered.entries)
    ∙ renewed_means c.self.inside c.self.invariant c.args.self.now c.self.view_is c.set_numbers.new.held.entries
    c.renewal.inside.numbered.entries c.len-count.result
    (c.set_numbers.ensures.set ∙ ap (λ l. with_numbers l c.self.inside.held.entries) (c.by_number.ensures ∙ made)
    ∙ held_is c.self.inside c.self.invariant) made c.len-count.ensures
