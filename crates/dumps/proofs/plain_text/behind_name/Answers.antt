use Rattle.dumps.proofs.PlainTexts.{unnamed_if}
use Rattle.dumps.proofs.plain_text.behind_name.Goals as goal

pub returns : goal.returns
returns c =
    unnamed_if c.args.bytes.now c.args.name.now c.in_ok-unnamed.unnamed.now c.in_ok-unquoted.unquoted.now c.behind_blanks_and.result
    c.in_ok-unnamed.ensures c.in_ok-unquoted.ensures c.behind_blanks_and.ensures
