use Rattle.std.proofs.Common.{◌≡◌, Some, ◌∙◌, ap, arith}
use Rattle.membership_view.specs.declared.status.Status.TheVariants.{Active}
use Rattle.membership_view.specs.Views.{ViewsValue, status_at}
use Rattle.membership_view.proofs.Kept.{versions_fit, whole-leaving}
use Rattle.membership_view.proofs.views.Views.begin_to_leave.Goals as goal

pub overflow_add-version : goal.overflow_add-version
overflow_add-version c = let fits = versions_fit _ c.self.invariant in omega (fits, arith)

pub invariant_of-self : goal.invariant_of-self
invariant_of-self c =
    let views : ViewsValue = record { limit = c.self.inside.limit; first = c.self.inside.first; version = c.self.inside.version; rows = c.self.inside.rows.entries } in
    let active : status_at views views.version c.args.silo.now ≡ Some Active = ap (λ v. status_at v v.version c.args.silo.now) c.self.view_is ∙ c.requires in
    rw c.set_left.ensures (whole-leaving views c.self.invariant c.args.silo.now active)
