use Rattle.std.proofs.Common.{◌≡◌, ◌++◌, ◌-◌, take, replicate}
use Rattle.silo_address.proofs.grain.padded.Given as goal

abbrev pub invariant-loop-position : goal.invariant-loop-position
invariant-loop-position l = l.array ≡ take l.position l.text ++ replicate (193 - l.position) 0
