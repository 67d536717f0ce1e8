use Rattle.dumps.proofs.PlainTexts.{code_read_if}
use Rattle.dumps.proofs.plain_text.coded.Goals as goal

pub returns : goal.returns
returns c =
    code_read_if c.args.bytes.now c.in_ok-behind.field-0.now c.in_ok-digits.digits.now c.in_ok-high.digits.now c.in_ok-low.rest.now _ _ _
    c.in_ok-behind.ensures c.in_ok-digits.ensures c.in_ok-high.ensures.cases.0 c.in_ok-low.ensures.cases.0 c.in_ok-of_digits.ensures
