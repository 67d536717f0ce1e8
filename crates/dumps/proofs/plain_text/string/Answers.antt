use Rattle.std.proofs.Common.{sym, ◌∙◌}
use Rattle.std.proofs.lemmas.Bool.{eqb-true}
use Rattle.dumps.proofs.PlainTexts.{cut_quoted}
use Rattle.dumps.proofs.plain_text.string.Goals as goal

pub returns-then-are_plain : goal.returns-then-are_plain
returns-then-are_plain c =
    cut_quoted c.args.bytes.now c.in-Some.end c.in-Some.ensures.0.high (eqb-true _ 34 c.in-Some.ensures.1)
    (sym c.are_plain.ensures ∙ c.if-are_plain.true)
