use Rattle.std.proofs.Common.{sym, ◌∙◌}
use Rattle.host_activations.proofs.RenewedAbout.{count_is}
use Rattle.host_activations.proofs.host.Host.count_about.Goals as goal

pub count_about-requires : goal.count_about-requires
count_about-requires c = λ number. (
  λ e. c.self.invariant.are_held.asked.there c.args.grain.now number (sym c.number_of-own.ensures ∙ e),
  λ e. c.number_of-own.ensures
      ∙ c.self.invariant.are_held.asked.only c.args.grain.now number e,
)

pub returns : goal.returns
returns c = c.count_about.ensures ∙ count_is c.self.inside c.self.invariant c.args.grain.now c.args.self.now c.self.view_is
