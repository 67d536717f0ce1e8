use Rattle.std.proofs.Common.{◌≤◌}
use Rattle.silo_address.proofs.FrontLaws.{BeginsWith}
use Rattle.silo_address.proofs.spelled.first_digits.Given as goal

abbrev pub invariant-loop-position : goal.invariant-loop-position
invariant-loop-position l = BeginsWith l.bytes l.position l.value × (l.value ≤ l.most)
