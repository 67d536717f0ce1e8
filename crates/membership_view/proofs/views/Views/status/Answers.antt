use Rattle.std.proofs.Common.{◌≤◌, sym, ◌∙◌, ap, subst, option_and_then}
use Rattle.membership_view.specs.Row.{status_in}
use Rattle.membership_view.specs.Views.{ViewsValue}
use Rattle.membership_view.specs.Whole.{IsViews}
use Rattle.membership_view.proofs.Known.{status_at-made}
use Rattle.membership_view.proofs.views.Views.status.Goals as goal

pub returns-in_err-row : goal.returns-in_err-row
returns-in_err-row c =
    let whole : IsViews c.args.self.now = subst (λ v. IsViews v) c.self.view_is c.self.invariant in
    let made : c.args.version ≤ c.args.self.now.version = subst (λ (v : ViewsValue). c.args.version ≤ v.version) c.self.view_is c.if-version-self.false in
    c.from_residual.ensures
    ∙ ap (λ o. option_and_then (status_in c.args.version) o) c.in_err-row.ensures
    ∙ sym (status_at-made c.args.self.now whole.in_order c.args.version c.args.silo.now made)

pub returns : goal.returns
returns c =
    let whole : IsViews c.args.self.now = subst (λ v. IsViews v) c.self.view_is c.self.invariant in
    let made : c.args.version ≤ c.args.self.now.version = subst (λ (v : ViewsValue). c.args.version ≤ v.version) c.self.view_is c.if-version-self.false in
    c.status.ensures
    ∙ ap (λ o. option_and_then (status_in c.args.version) o) c.in_ok-row.ensures
    ∙ sym (status_at-made c.args.self.now whole.in_order c.args.version c.args.silo.now made)
