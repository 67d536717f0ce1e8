use Rattle.std.proofs.Common.{IsSome, sym, ◌∙◌, ap, arith, subst}
use Rattle.membership_view.specs.Views.{ViewsValue, status_at}
use Rattle.membership_view.proofs.Kept.{versions_fit, whole-dying}
use Rattle.membership_view.proofs.views.Views.die.Goals as goal

pub overflow_add-version : goal.overflow_add-version
overflow_add-version c = let fits = versions_fit _ c.self.invariant in omega (fits, arith)

pub invariant_of-self : goal.invariant_of-self
invariant_of-self c =
    let views : ViewsValue = record { limit = c.self.inside.limit; first = c.self.inside.first; version = c.self.inside.version; rows = c.self.inside.rows.entries } in
    let same = ap (λ v. status_at v v.version c.args.silo.now) c.self.view_is in
    rw c.set_dead.ensures (whole-dying views c.self.invariant c.args.silo.now (subst (λ o. IsSome o) (sym same) c.requires.there)
    (λ dead. c.requires.not_dead (sym same ∙ dead)))
