use Rattle.std.proofs.Common.{◌∷◌, sym, ◌∙◌}
use Rattle.dumps.proofs.PlainTexts.{at_blanks, object_closed}
use Rattle.dumps.proofs.plain_text.PlainText.take_end_object.Goals as goal

pub returns-clause-taken : goal.returns-clause-taken
returns-clause-taken c =
    let rest = c.in-Some.rest.now in
    sym c.self.view_is ∙ at_blanks c.self.inside.place c.self.inside.rest.now (125 ∷ rest) c.in-Some.ensures
    ∙ object_closed c.self.inside.place rest
