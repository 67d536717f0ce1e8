use Rattle.std.proofs.Common.{length}
use Rattle.dumps.specs.PlainText.{StandsFor}
use Rattle.dumps.proofs.plain_text.unescape.Given as goal

abbrev pub invariant-loop-part : goal.invariant-loop-part
invariant-loop-part l = StandsFor l.bytes l.text.items l.left

abbrev pub decreases-loop-part : goal.decreases-loop-part
decreases-loop-part l = length l.left
