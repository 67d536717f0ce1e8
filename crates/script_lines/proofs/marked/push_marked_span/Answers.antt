use Rattle.std.proofs.Common.{arith}
use Rattle.std.proofs.lemmas.Fmt.{length-decimal-le}
use Rattle.script_lines.proofs.marked.push_marked_span.Goals as goal

pub put_number-behind-requires-clause-room : goal.put_number-behind-requires-clause-room
put_number-behind-requires-clause-room c =
    omega (arith, length-decimal-le 20 c.args.span.now.last (omega arith) (omega arith) (omega arith))

pub overflow_sub-bytes : goal.overflow_sub-bytes
overflow_sub-bytes c = omega (arith, length-decimal-le 20 c.args.span.now.last (omega arith) (omega arith) (omega arith))

pub overflow_sub-behind : goal.overflow_sub-behind
overflow_sub-behind c = omega (arith, length-decimal-le 20 c.args.span.now.last (omega arith) (omega arith) (omega arith))

pub put_number-start-requires-clause-room : goal.put_number-start-requires-clause-room
put_number-start-requires-clause-room c =
    let last = length-decimal-le 20 c.args.span.now.last (omega arith) (omega arith) (omega arith) in
    omega (arith, length-decimal-le 20 c.args.span.now.first (omega arith) (omega arith) (omega arith))
