use Rattle.std.proofs.Common.{sym, ◌∙◌}
use Rattle.std.specs.Cow.{cow_slice_items}
use Rattle.dumps.proofs.PlainTexts.{string_taken}
use Rattle.dumps.proofs.plain_text.PlainText.text.Goals as goal

pub returns : goal.returns
returns c =
    sym c.self.view_is ∙ c.in_ok-quoted.ensures.begun
    ∙ string_taken c.self.inside.place c.in_ok-quoted.quoted.now (cow_slice_items c.in_ok-text.text) c.in_ok-text.rest.now
    c.in_ok-text.ensures (sym c.if-not-ends_value.ensures)
