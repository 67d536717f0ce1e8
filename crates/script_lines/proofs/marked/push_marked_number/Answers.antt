use Rattle.std.proofs.Common.{arith}
use Rattle.std.proofs.lemmas.Fmt.{length-decimal-le}
use Rattle.script_lines.proofs.marked.push_marked_number.Goals as goal

pub put_number-start-requires-clause-room : goal.put_number-start-requires-clause-room
put_number-start-requires-clause-room c =
    omega (arith, length-decimal-le 20 c.args.number (omega arith) (omega arith) c.ranges.number.fits)
