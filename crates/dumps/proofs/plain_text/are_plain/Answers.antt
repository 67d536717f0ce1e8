use Rattle.std.proofs.Common.{ap, ap₂, sym, ◌∙◌, take_all}
use Rattle.std.specs.Prelude.{◌&&◌}
use Rattle.std.specs.List.{list_all}
use Rattle.std.proofs.lemmas.List.Folds.{list_all_more}
use Rattle.dumps.specs.PlainText.{is_plain_byte}
use Rattle.dumps.proofs.plain_text.are_plain.Goals as goal

pub loop-byte-preserved : goal.loop-byte-preserved
loop-byte-preserved c =
    ap₂ (λ one other. one && other) c.loop-byte.invariant c.is_plain-all.ensures
    ∙ sym (list_all_more is_plain_byte c.args.text.now c.loop-byte.byte-index 0 c.loop-byte-test.true)

pub returns : goal.returns
returns c = c.loop-byte.invariant ∙ ap (list_all is_plain_byte) (take_all c.loop-byte.byte-index c.args.text.now c.loop-byte-test.false)
