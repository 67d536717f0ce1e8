use Rattle.std.proofs.Common.{arith, ◌++◌, ap, sym, ◌∙◌, take, drop, length, ◌-◌}
use Rattle.dumps.proofs.PlainTexts.{number_if}
use Rattle.texts.proofs.Cuts.{rest_from}
use Rattle.std.proofs.lemmas.List.{take-append-drop}
use Rattle.dumps.proofs.Along.{number_told}
use Rattle.serde_json.proofs.Numbers.{number_of-decimal}
use Rattle.dumps.proofs.plain_text.PlainText.number.Goals as goal

pub returns-clause-taken : goal.returns-clause-taken
returns-clause-taken c =
    let found = c.in-Ok.ensures.found in
    let most = found.0 in
    let begun = c.in-Some.begun.now in
    let end = c.digits_end-end.result in
    let parts = sym (ap (λ back. take end begun ++ back) (rest_from begun end) ∙ take-append-drop end begun) in
    number_told _ _ _ _
    (sym c.self.view_is ∙ number_if c.self.inside.place c.self.inside.rest.now begun (take end begun)
    (take (length begun - end) (drop end begun)) c.in-Ok.value
    c.in-Some.ensures parts found.1 (omega (arith, most)) (sym c.if-not-ends_value.ensures))
    (number_of-decimal c.in-Ok.value (omega (arith, most)))
