use Rattle.std.proofs.Common.{sym, ◌∙◌}
use Rattle.dumps.proofs.PlainTexts.{plain_stand}
use Rattle.dumps.proofs.plain_text.up_to_mark.Goals as goal

pub returns-then-are_plain : goal.returns-then-are_plain
returns-then-are_plain c =
    plain_stand c.args.bytes.now c.split_at.result.0.now c.split_at.result.1.now c.split_at.ensures.by_index.0
    (sym c.are_plain.ensures ∙ c.if-are_plain.true)
