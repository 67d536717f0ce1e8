use Rattle.std.proofs.Common.{arith}
use Rattle.std.proofs.lemmas.Fmt.{length-decimal-le}
use Rattle.script_lines.proofs.marked.push_marked_activation.Goals as goal

pub put_number-behind-requires-clause-room : goal.put_number-behind-requires-clause-room
put_number-behind-requires-clause-room c =
    omega (arith, length-decimal-le 20 c.args.activation.now.count (omega arith) (omega arith) (omega arith))

pub put_silo-start-requires-clause-room : goal.put_silo-start-requires-clause-room
put_silo-start-requires-clause-room c =
    omega (arith, length-decimal-le 20 c.args.activation.now.count (omega arith) (omega arith) (omega arith))
