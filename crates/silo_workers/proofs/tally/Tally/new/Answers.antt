use Rattle.silo_workers.proofs.Deliveries.{none_yet}
use Rattle.silo_workers.proofs.tally.Tally.new.Goals as goal

pub invariant_of-result : goal.invariant_of-result
invariant_of-result g c =
    none_yet g.L.Charter.settings c.args.silo c.args.hand.seen c.args.hand.share.parts c.args.hand.share.amount c.new.result.items
    c.requires.part c.requires.none c.new.ensures.items
