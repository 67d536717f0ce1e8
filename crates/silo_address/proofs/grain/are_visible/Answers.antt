use Rattle.silo_address.proofs.VisibleTexts.{visible_more, visible_whole}
use Rattle.silo_address.proofs.grain.are_visible.Goals as goal

pub loop-byte-preserved : goal.loop-byte-preserved
loop-byte-preserved c =
    visible_more _ _ c.args.text.now c.loop-byte.byte-index c.loop-byte-test.true c.loop-byte.invariant c.is_visible-all.ensures

pub returns : goal.returns
returns c = visible_whole _ c.args.text.now c.loop-byte.byte-index c.loop-byte-test.false c.loop-byte.invariant
