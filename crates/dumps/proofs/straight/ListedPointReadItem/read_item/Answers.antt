use Rattle.dumps.proofs.Told.{point_told}
use Rattle.dumps.proofs.straight.ListedPointReadItem.read_item.Goals as goal

pub returns : goal.returns
returns c =
    point_told _ _ _ _ _ _ _ _ _ c.in_ok-begin_items.ensures.taken c.in_ok-place.ensures.taken c.in_ok-silo.ensures
    c.in_ok-index.ensures.taken c.in_ok-end_items.ensures.taken
