use Rattle.dumps.proofs.PlainTexts.{over_if}
use Rattle.dumps.proofs.plain_text.PlainText.is_over.Goals as goal

pub returns : goal.returns
returns c =
    over_if c.self.inside.place c.self.inside.rest.now c.behind_blanks.result.now c.args.self.now c.is_empty.result
    c.self.view_is c.behind_blanks.ensures c.is_empty.ensures
