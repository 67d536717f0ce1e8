use Rattle.std.proofs.Common.{sym, ◌∙◌}
use Rattle.dumps.proofs.PlainTexts.{key_taken}
use Rattle.dumps.proofs.plain_text.PlainText.take_name.Goals as goal

pub returns-clause-taken : goal.returns-clause-taken
returns-clause-taken c =
    sym c.self.view_is ∙ c.in-Ok.ensures.begun ∙ key_taken c.self.inside.place c.in-Ok.quoted.now c.args.name.now c.in-Some.rest.now
    c.requires c.in-Some.ensures
