use Rattle.std.proofs.Common.{◌∷◌, ap, sym, ◌∙◌}
use Rattle.json.specs.Json.{after_end_array}
use Rattle.dumps.proofs.PlainTexts.{array_closed, at_blanks}
use Rattle.dumps.proofs.plain_text.PlainText.take_end_array.Goals as goal

pub returns-clause-taken : goal.returns-clause-taken
returns-clause-taken c =
    let rest = c.in-Some.rest.now in
    ap after_end_array
    (sym c.self.view_is ∙ at_blanks c.self.inside.place c.self.inside.rest.now (93 ∷ rest) c.in-Some.ensures
    ∙ array_closed c.self.inside.place rest)
