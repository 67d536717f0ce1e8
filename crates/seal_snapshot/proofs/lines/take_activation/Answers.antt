use Rattle.seal_snapshot.proofs.Hashed.{activation_parts, takes_as, takes_both}
use Rattle.seal_snapshot.proofs.lines.take_activation.Goals as goal

pub returns : goal.returns
returns c =
    takes_as _ _ _ _ (activation_parts c.args.activation.now c.args.mark) (takes_both _ _ _ _ _ c.take_silo.ensures c.take_number.ensures)
