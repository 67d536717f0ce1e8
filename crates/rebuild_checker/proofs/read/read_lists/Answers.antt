use Rattle.std.proofs.Common.{inr, sym, ◌∙◌}
use Rattle.rebuild_checker.proofs.ReadDumps.{no_text, nothing_told, text_in}
use Rattle.rebuild_checker.proofs.read.read_lists.Goals as goal

pub returns-in-Ok-clause-told : goal.returns-in-Ok-clause-told
returns-in-Ok-clause-told c =
    text_in c.read_text.result c.args.bytes.now c.in-Ok.text.now c.in-Ok.ensures.0 c.in-Ok.ensures.1 c.read_text.ensures.told

pub returns-in-Ok-clause-empty : goal.returns-in-Ok-clause-empty
returns-in-Ok-clause-empty c =
    λ empty. nothing_told c.read_text.result c.in-Ok.text.now c.read_text.ensures.told c.read_text.ensures.empty (c.in-Ok.ensures.0 ∙ empty)

pub returns-in-Err-clause-told : goal.returns-in-Err-clause-told
returns-in-Err-clause-told c = inr (sym (no_text c.args.bytes.now c.in-Err.ensures))
