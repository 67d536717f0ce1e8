use Rattle.std.proofs.Common.{◌≡◌, sym, ap, ◌∙◌, ◌+◌, length}
use Rattle.host_activations.specs.Renewal.{with_numbers}
use Rattle.host_activations.proofs.Fields.{meant}
use Rattle.host_activations.proofs.MovedAbout.{length-numbered}
use Rattle.host_activations.proofs.RenewedAbout.{enough, held_is, mine, numbered, renewed_is, renewed_means}
use Rattle.host_activations.proofs.host.Host.renew_about.Goals as goal

pub renew_about-requires : goal.renew_about-requires
renew_about-requires c = record {
  own = λ number. (
    λ e. c.self.invariant.are_held.asked.there c.args.grain.now number (sym c.number_of-own.ensures ∙ e),
    λ e. c.number_of-own.ensures
        ∙ c.self.invariant.are_held.asked.only c.args.grain.now number e,
  );
  below = c.self.invariant.are_held.below;
  left = enough c.self.inside c.self.invariant c.args.grain.now c.args.self.now c.self.view_is c.requires.numbers;
}

pub invariant_of-self-2 : goal.invariant_of-self-2
invariant_of-self-2 c =
    let told : c.in_ok-numbered.numbered.entries ≡ numbered c.self.inside c.self.invariant c.args.grain.now = c.in_ok-numbered.ensures.told in
    renewed_is c.self.inside c.self.invariant c.args.grain.now c.args.self.now c.self.view_is c.set_numbers.new.held.entries
    c.renew_about.new.self.entries c.len.result
    (c.set_numbers.ensures.set ∙ ap (λ l. with_numbers l c.self.inside.held.entries) (c.by_number.ensures ∙ told)
    ∙ held_is c.self.inside c.self.invariant c.args.grain.now)
    c.in_ok-numbered.ensures.renewed
    (c.len.ensures ∙ ap (λ l. length l) told ∙ length-numbered c.self.inside.next_number
    (mine c.self.inside c.self.invariant c.args.grain.now))
    c.requires.numbers

pub returns-clause-renewed : goal.returns-clause-renewed
returns-clause-renewed c =
    let told : c.in_ok-numbered.numbered.entries ≡ numbered c.self.inside c.self.invariant c.args.grain.now = c.in_ok-numbered.ensures.told in
    (λ i. meant c.self.inside.silo (c.self.inside.next_number + c.len.result) (c.set_numbers.ensures.count i) c.set_numbers.new.held.entries
    c.renew_about.new.self.entries)
    ∙ renewed_means c.self.inside c.self.invariant c.args.grain.now c.args.self.now c.self.view_is c.set_numbers.new.held.entries
    c.renew_about.new.self.entries c.len.result
    (c.set_numbers.ensures.set ∙ ap (λ l. with_numbers l c.self.inside.held.entries) (c.by_number.ensures ∙ told)
    ∙ held_is c.self.inside c.self.invariant c.args.grain.now)
    c.in_ok-numbered.ensures.renewed
    (c.len.ensures ∙ ap (λ l. length l) told ∙ length-numbered c.self.inside.next_number
    (mine c.self.inside c.self.invariant c.args.grain.now))
