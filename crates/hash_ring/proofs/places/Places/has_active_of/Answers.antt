use Rattle.std.proofs.Common.{◌∙◌, ap, not, ◌||◌}
use Rattle.std.specs.List.{list_all}
use Rattle.membership_view.specs.Row.{is_active}
use Rattle.hash_ring.specs.Places.{is_added}
use Rattle.hash_ring.proofs.PointsOfViews.{are_added-by_rows}
use Rattle.hash_ring.proofs.places.Places.has_active_of.Goals as goal

pub returns : goal.returns
returns c =
    c.are_ready_for.ensures
    ∙ ap (λ rows. list_all (λ row. not (is_active row.1) || is_added c.args.self.now row.0) rows) c.rows.ensures
    ∙ are_added-by_rows c.args.self.now c.args.view.now.rows
