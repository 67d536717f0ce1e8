use Rattle.std.proofs.Common.{◌<◌, ◌+◌, arith, length}
use Rattle.std.proofs.lemmas.Grind.{common_steps}
use Rattle.std.proofs.lemmas.Int.Digits.{digits_value_more}
use Rattle.std.proofs.lemmas.Str.Parse.{digits_value-take-le}
use Rattle.texts.proofs.number.value_up_to.Goals as goal

-- the digits so far write a number of at least 2^64, and all of them no less
pub returns-in_err-value : goal.returns-in_err-value
returns-in_err-value c =
    rw c.from_residual.ensures
    (λ at_most.
    let inside : c.loop-digit.digit-index < length c.args.numeral.now = omega arith in
    let more = digits_value_more 10 c.args.numeral.now c.loop-digit.digit-index inside in
    let front = digits_value-take-le 10 c.args.numeral.now (c.loop-digit.digit-index + 1) (omega arith) in
    c.in_err-value.ensures (omega arith))

pub loop-digit-preserved : goal.loop-digit-preserved
loop-digit-preserved c =
    let inside : c.loop-digit.digit-index < length c.args.numeral.now = omega arith in
    let more = digits_value_more 10 c.args.numeral.now c.loop-digit.digit-index inside in
    cc (c.in_ok-value.ensures.1)

pub returns-else-value-most : goal.returns-else-value-most
returns-else-value-most c = grind (arith, common_steps)
