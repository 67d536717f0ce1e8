use Rattle.std.proofs.Common.{sym, ap, subst, ◌≡◌, ◌∙◌, ◌+◌, ◌^◌, ◌≤◌, length}
use Rattle.std.specs.List.{enumerate_from}
use Rattle.std.specs.Map.{values_of}
use Rattle.std.specs.Prelude.{IfOk}
use Rattle.host_activations.specs.Acts.{acts_in}
use Rattle.host_activations.proofs.RenewedAbout.{enough, requests_are}
use Rattle.host_activations.proofs.host.Host.renewed_requests_about.Goals as goal

pub about-requires : goal.about-requires
about-requires c = λ number. (
  λ e. c.self.invariant.are_held.asked.there c.args.grain.now number (sym c.number_of-own.ensures ∙ e),
  λ e. c.number_of-own.ensures
      ∙ c.self.invariant.are_held.asked.only c.args.grain.now number e,
)

pub renumbered-requires : goal.renumbered-requires
renumbered-requires c =
    subst (λ l. c.self.inside.next_number + length l ≤ 2 ^ 60 + 1) (sym c.in_ok-about.ensures)
    (enough c.self.inside c.self.invariant c.args.grain.now c.args.self.now c.self.view_is c.requires)

pub returns : goal.returns
returns c =
    subst (λ l. IfOk c.acts_in.result (λ requests. requests.items ≡ l))
    (ap (λ l. acts_in c.self.inside.silo c.self.inside.held.entries l)
    (c.by_number.ensures ∙ c.in_ok-numbered.ensures ∙ ap (λ l. enumerate_from c.self.inside.next_number (values_of l))
    c.in_ok-about.ensures)
    ∙ requests_are c.self.inside c.self.invariant c.args.grain.now c.args.self.now c.self.view_is)
    c.acts_in.ensures
