use Rattle.std.proofs.Common.{◌≡◌, ◌<◌, false, length, sym, ◌∙◌, ap, subst}
use Rattle.membership_view.specs.Beginning.{is_known_endpoint}
use Rattle.membership_view.specs.Views.{ViewsValue}
use Rattle.membership_view.specs.Whole.{IsViews}
use Rattle.membership_view.proofs.Beginnings.{whole-listed}
use Rattle.membership_view.proofs.views.Views.put_listed.Goals as goal

pub invariant_of-self-2 : goal.invariant_of-self-2
invariant_of-self-2 c =
    let views : ViewsValue = record { limit = c.self.inside.limit; first = c.self.inside.first; version = c.self.inside.version; rows = c.self.inside.rows.entries } in
    let later : 0 < views.first = subst (λ (v : ViewsValue). 0 < v.first) (sym c.self.view_is) c.requires.later in
    let room : length views.rows < views.limit = subst (λ (v : ViewsValue). length v.rows < v.limit) (sym c.self.view_is) c.requires.room in
    let apart : is_known_endpoint c.args.silo views.rows ≡ false = ap (λ (v : ViewsValue). is_known_endpoint c.args.silo v.rows) c.self.view_is ∙ c.requires.apart in
    subst (λ rows. IsViews (record views { rows = rows })) (sym c.in_ok-insert.ensures.entries)
    (rw c.beginning-row.ensures (whole-listed views c.self.invariant c.args.silo c.args.status later apart room))
