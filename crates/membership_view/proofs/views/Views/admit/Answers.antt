use Rattle.std.proofs.Common.{◌≡◌, ◌<◌, true, length, sym, ◌∙◌, ap, arith, subst}
use Rattle.membership_view.specs.Changes.{is_newest}
use Rattle.membership_view.specs.Views.{ViewsValue}
use Rattle.membership_view.proofs.Kept.{versions_fit}
use Rattle.membership_view.proofs.Joins.{whole-joined}
use Rattle.membership_view.proofs.views.Views.admit.Goals as goal

pub overflow_add-version : goal.overflow_add-version
overflow_add-version c = let fits = versions_fit _ c.self.invariant in omega (fits, arith)

pub invariant_of-self-2 : goal.invariant_of-self-2
invariant_of-self-2 c =
    let views : ViewsValue = record { limit = c.self.inside.limit; first = c.self.inside.first; version = c.self.inside.version; rows = c.self.inside.rows.entries } in
    let room : length views.rows < views.limit = subst (λ (v : ViewsValue). length v.rows < v.limit) (sym c.self.view_is) c.requires.room in
    let newest : is_newest c.args.silo views.rows ≡ true = ap (λ (v : ViewsValue). is_newest c.args.silo v.rows) c.self.view_is ∙ c.requires.newest in
    rw c.in_ok-joined.ensures.ok (whole-joined views c.self.invariant c.args.silo newest room)
