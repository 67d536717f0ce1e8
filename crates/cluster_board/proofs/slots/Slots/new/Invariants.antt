use Rattle.std.proofs.Common.{◌≡◌, length}
use Rattle.cluster_board.proofs.slots.Slots.new.Given as goal

abbrev pub invariant-loop : goal.invariant-loop
invariant-loop g l = length l.slots.items ≡ l.counter
