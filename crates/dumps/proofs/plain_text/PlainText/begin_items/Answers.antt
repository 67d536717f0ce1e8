use Rattle.std.proofs.Common.{sym, ◌∙◌}
use Rattle.dumps.proofs.PlainTexts.{array_opened}
use Rattle.dumps.proofs.plain_text.PlainText.begin_items.Goals as goal

pub returns-clause-taken : goal.returns-clause-taken
returns-clause-taken c = sym c.self.view_is ∙ c.in_ok-rest.ensures.begun ∙ array_opened c.self.inside.place c.in_ok-rest.rest.now
