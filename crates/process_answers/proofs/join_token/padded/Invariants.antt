use Rattle.std.proofs.Common.{◌≡◌, ◌++◌, ◌-◌, take, replicate}
use Rattle.process_answers.proofs.join_token.padded.Given as goal

abbrev pub invariant-loop-position : goal.invariant-loop-position
invariant-loop-position l = l.array ≡ take l.position l.text ++ replicate (64 - l.position) 0
