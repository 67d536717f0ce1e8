use Rattle.std.proofs.Common.{◌≡◌, not, Some, sym, ◌∙◌, ap}
use Rattle.std.specs.List.{slice_get}
use Rattle.silo_address.specs.Silo.{Silo}
use Rattle.membership_view.specs.declared.row.Row.{Row}
use Rattle.membership_view.proofs.Order.{shares_is}
use Rattle.membership_view.proofs.Neighbours.{newest_none, newest_next}
use Rattle.membership_view.proofs.endpoint.is_newest.Goals as goal

-- the first row that isn't before the silo tells
pub returns-in-Some : goal.returns-in-Some
returns-in-Some c =
    let found = c.range.ensures.in_range tt in
    let first : Silo × Row = (c.in-Some.next.now, c.in-Some.field-0-1.now) in
    let head : slice_get c.range.result 0 ≡ Some first = ap (λ l. slice_get l 0) c.in-Some.ensures.steps in
    let entry = rw head at found.1 in
    ap not (shares_is c.args.silo.now c.in-Some.next.now c.same_endpoint.result c.same_endpoint.ensures)
    ∙ newest_next c.args.silo.now c.args.rows.now.entries c.range.ensures.ordered c.in-Some.next.now c.in-Some.field-0-1.now
    entry.1 entry.0.0 (λ q at there. let least = found.2 q (at, tt) there in rw head at least)

pub returns-in-None : goal.returns-in-None
returns-in-None c =
    sym (newest_none c.args.silo.now c.args.rows.now.entries c.range.ensures.ordered
    (λ q at. (c.range.ensures.in_range tt).5 c.in-None.ensures.steps.0 q (at, tt)))
