use Rattle.std.proofs.Common.{ap, ap₂, sym, ◌∙◌, take_all}
use Rattle.std.specs.Prelude.{◌&&◌}
use Rattle.std.specs.List.{list_all}
use Rattle.std.proofs.lemmas.List.Folds.{list_all_more}
use Rattle.script_rules.specs.Script as script
use Rattle.script_lines.proofs.read.is_text.Goals as goal

pub loop-byte-preserved : goal.loop-byte-preserved
loop-byte-preserved c =
    ap₂ (λ one other. one && other) c.loop-byte.invariant c.may_stand-all.ensures
    ∙ sym (list_all_more script.is_text c.args.line.now c.loop-byte.byte-index 0 c.loop-byte-test.true)

pub returns : goal.returns
returns c = c.loop-byte.invariant ∙ ap (list_all script.is_text) (take_all c.loop-byte.byte-index c.args.line.now c.loop-byte-test.false)
