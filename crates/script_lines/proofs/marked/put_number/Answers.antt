use Rattle.std.proofs.Common.{ap, ◌∙◌, ◌++◌, arith, length}
use Rattle.std.specs.Fmt.{decimal}
use Rattle.std.proofs.lemmas.Fmt.{decimal_digit}
use Rattle.script_lines.proofs.Texts.{digit_put, mark_put}
use Rattle.script_lines.proofs.marked.put_number.Goals as goal

pub overflow_sub-bytes-then-number-lt10 : goal.overflow_sub-bytes-then-number-lt10
overflow_sub-bytes-then-number-lt10 c = omega (arith, ap length (decimal_digit c.args.number c.if-number-lt10.true))

pub overflow_sub-result : goal.overflow_sub-result
overflow_sub-result c = omega (arith, ap length (decimal_digit c.args.number c.if-number-lt10.true))

pub returns-then-number-lt10-clause-start : goal.returns-then-number-lt10-clause-start
returns-then-number-lt10-clause-start c = omega (arith, ap length (decimal_digit c.args.number c.if-number-lt10.true))

pub returns-then-number-lt10-clause-put : goal.returns-then-number-lt10-clause-put
returns-then-number-lt10-clause-put c =
    digit_put c.args.bytes.now c.args.end c.args.number c.args.mark c.if-number-lt10.true
    (omega (arith, ap length (decimal_digit c.args.number c.if-number-lt10.true))) c.requires.within

pub returns-clause-put : goal.returns-clause-put
returns-clause-put c =
    c.write_digits.ensures.written
    ∙ ap (λ t. decimal c.args.number ++ t) (mark_put c.args.bytes.now c.args.end c.args.mark (omega arith) c.requires.within)
