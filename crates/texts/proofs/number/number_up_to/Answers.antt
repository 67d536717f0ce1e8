use Rattle.std.proofs.Common.{Ok, ap, arith, sym, ◌∙◌}
use Rattle.std.specs.Fmt.{decimal}
use Rattle.texts.proofs.NumeralLaws.{decimal-numeral_value, decimal_is_numeral_as, numeral_value-decimal_as}
use Rattle.texts.proofs.number.number_up_to.Goals as goal

pub returns-then-value-most-clause-found : goal.returns-then-value-most-clause-found
returns-then-value-most-clause-found c =
    let found = c.in-Some.ensures in
    (omega arith, sym (decimal-numeral_value c.args.word.now found.0.0 found.0.1) ∙ ap decimal (sym found.1))

pub returns-then-value-most-clause-only : goal.returns-then-value-most-clause-only
returns-then-value-most-clause-only c = λ number at_most spelled.
    ap Ok (c.in-Some.ensures.1 ∙ numeral_value-decimal_as c.args.word.now number spelled (omega arith))

pub returns-else-value-most-clause-only : goal.returns-else-value-most-clause-only
returns-else-value-most-clause-only c = λ number at_most spelled.
    let value = numeral_value-decimal_as c.args.word.now number spelled (omega arith) in
    let same = c.in-Some.ensures.1 in
    absurd (omega arith)

pub returns-then-is_numeral-clause-only : goal.returns-then-is_numeral-clause-only
returns-then-is_numeral-clause-only c = λ number at_most spelled.
    let value = numeral_value-decimal_as c.args.word.now number spelled (omega arith) in
    absurd (c.in-None.ensures (decimal_is_numeral_as c.args.word.now number spelled (omega arith), omega arith))

pub returns-else-is_numeral-clause-only : goal.returns-else-is_numeral-clause-only
returns-else-is_numeral-clause-only c = λ number at_most spelled.
    let value = numeral_value-decimal_as c.args.word.now number spelled (omega arith) in
    absurd (c.in-None.ensures (decimal_is_numeral_as c.args.word.now number spelled (omega arith), omega arith))
