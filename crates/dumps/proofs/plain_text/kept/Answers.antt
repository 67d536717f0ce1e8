use Rattle.std.proofs.Common.{sym}
use Rattle.dumps.proofs.PlainTexts.{kept_stands}
use Rattle.dumps.proofs.plain_text.kept.Goals as goal

pub returns-then-keeps_its_meaning : goal.returns-then-keeps_its_meaning
returns-then-keeps_its_meaning c =
    kept_stands c.args.bytes.now c.in_ok-first.first.now c.in_ok-first.rest.now c.in_ok-first.ensures.cases.0
    (sym c.if-keeps_its_meaning.ensures)
