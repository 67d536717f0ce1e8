use Rattle.seal_snapshot.proofs.Hashed.{ip_parts, takes_as, takes_both}
use Rattle.seal_snapshot.proofs.lines.take_ip.Goals as goal

pub returns : goal.returns
returns c =
    takes_as _ _ _ _ (ip_parts c.args.ip c.from.result c.from-2.result c.from-3.result c.from-4.result c.from.ensures c.from-2.ensures
    c.from-3.ensures c.from-4.ensures)
    (takes_both _ _ _ _ _ c.take_number.ensures
    (takes_both _ _ _ _ _ c.take_number-2.ensures (takes_both _ _ _ _ _ c.take_number-3.ensures c.take_number-4.ensures)))
