use Rattle.std.proofs.Common.{◌≡◌, length}
use Rattle.dumps.specs.PlainText.{behind_blanks}
use Rattle.dumps.proofs.plain_text.behind_each_blank.Given as goal

abbrev pub invariant-loop-rest : goal.invariant-loop-rest
invariant-loop-rest l = behind_blanks l.bytes ≡ behind_blanks l.left

abbrev pub decreases-loop-rest : goal.decreases-loop-rest
decreases-loop-rest l = length l.left
