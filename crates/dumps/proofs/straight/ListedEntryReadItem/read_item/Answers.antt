use Rattle.dumps.proofs.Told.{entry_told}
use Rattle.dumps.proofs.straight.ListedEntryReadItem.read_item.Goals as goal

pub returns : goal.returns
returns c =
    entry_told _ _ _ _ _ _ _ c.in_ok-begin_items.ensures.taken c.in_ok-grain.ensures c.in_ok-activation.ensures
    c.in_ok-end_items.ensures.taken
