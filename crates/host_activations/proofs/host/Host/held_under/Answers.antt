use Rattle.std.proofs.Common.{◌≡◌, refl, None, Some}
use Rattle.host_activations.proofs.Replies.{finds_held, finds_none, has_number, is_held}
use Rattle.host_activations.proofs.host.Host.held_under.Goals as goal

pub returns-in_err-grain-clause-found : goal.returns-in_err-grain-clause-found
returns-in_err-grain-clause-found c =
    finds_none c.self.inside c.self.invariant c.args.self.now c.self.view_is c.args.number
    (λ g is. let none : None ≡ Some g = (c.in_err-grain.ensures g).1 is in cc) c.from_residual.result
    c.from_residual.ensures

pub returns-in_err-held-clause-found : goal.returns-in_err-held-clause-found
returns-in_err-held-clause-found c =
    is_held c.self.inside c.self.invariant c.args.self.now c.self.view_is c.args.number c.in_ok-grain.grain
    ((c.in_ok-grain.ensures c.in_ok-grain.grain).0 refl) c.in_err-held.ensures

pub returns-clause-asked : goal.returns-clause-asked
returns-clause-asked c =
    has_number c.self.inside c.self.invariant c.args.self.now c.self.view_is c.args.number c.in_ok-grain.grain
    ((c.in_ok-grain.ensures c.in_ok-grain.grain).0 refl) c.in_ok-held.held c.in_ok-held.ensures

pub returns-clause-found : goal.returns-clause-found
returns-clause-found c =
    finds_held c.self.inside c.self.invariant c.args.self.now c.self.view_is c.args.number c.in_ok-grain.grain
    ((c.in_ok-grain.ensures c.in_ok-grain.grain).0 refl) c.in_ok-held.held c.in_ok-held.ensures
