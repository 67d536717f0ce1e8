use Rattle.std.proofs.Common.{◌≡◌, ◌++◌, take}
use Rattle.dumps.proofs.plain_text.behind_all.Given as goal

abbrev pub invariant-loop-mark : goal.invariant-loop-mark
invariant-loop-mark l = l.bytes ≡ take l.mark-index l.marks ++ l.rest
