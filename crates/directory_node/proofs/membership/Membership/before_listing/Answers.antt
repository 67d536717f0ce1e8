use Rattle.std.proofs.Common.{sym, subst, ap, ◌∙◌, ℕ, []}
use Rattle.std.specs.Prelude.{Err, IsOk}
use Rattle.membership_view.specs.Refusal.{views_error_number}
use Rattle.membership_view.specs.Views.{views_from}
use Rattle.membership_view.specs.declared.ViewsError.{ViewsError}
use Rattle.directory_rules.specs.Membership.{begun}
use Rattle.directory_node.specs.Follows.{RefusesBy}
use Rattle.directory_node.proofs.ListedSilos.{begun_so, too_late}
use Rattle.directory_node.proofs.membership.Membership.before_listing.Goals as goal

pub returns-in-Ok-beginning-clause-begun : goal.returns-in-Ok-beginning-clause-begun
returns-in-Ok-beginning-clause-begun c =
    begun_so c.args.settings.now c.args.version c.in-Ok-beginning.views c.in-Ok.places
    (λ late. let refused = c.in-Ok-beginning.ensures.not_listable.1 late in cc (refused))
    (c.in-Ok-beginning.ensures.begun ∙ ap (λ (n : ℕ). views_from n c.args.version) c.silos.ensures)
    (c.in-Ok.ensures.made ∙ (λ i. record { hashing = c.hashing.ensures i; points = c.points.ensures i; entries = [] }))

pub returns-in-Err-clause-begun : goal.returns-in-Err-clause-begun
returns-in-Err-clause-begun c =
    let only = c.in-Err.ensures.only in
    let late = c.in-Err.ensures.not_listable.0 (ap (λ (r : ViewsError). Err r) only) in
    subst (λ (r : ViewsError). RefusesBy IsOk (views_error_number r) (begun c.args.settings.now c.args.version [])) (sym only)
    (too_late c.args.settings.now c.args.version late)
