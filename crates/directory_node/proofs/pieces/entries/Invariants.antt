use Rattle.std.proofs.Common.{◌≡◌, take}
use Rattle.directory_node.proofs.pieces.entries.Given as goal

abbrev pub invariant-loop-entry : goal.invariant-loop-entry
invariant-loop-entry l = l.listed.items ≡ take l.entry-index l.entry-items
