use Rattle.dumps.proofs.Along.{list_if}
use Rattle.dumps.proofs.straight.VecReadText.read_text.Goals as goal

pub returns : goal.returns
returns g c =
    list_if (λ list. list.items) g.T.ReadItem.reads g.T.ReadItem.deep _ _ _ c.items.result c.in_ok-begin_items.ensures.taken c.items.ensures
