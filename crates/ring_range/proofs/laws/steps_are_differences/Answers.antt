use Rattle.ring_range.proofs.Circle.{distance-mod, ahead-mod, ahead-distance, distance-ahead}
use Rattle.ring_range.proofs.laws.steps_are_differences.Goals as goal

pub returns-clause-distance : goal.returns-clause-distance
returns-clause-distance c = λ place p hash h. distance-mod place hash p h

pub returns-clause-ahead : goal.returns-clause-ahead
returns-clause-ahead c = λ place p steps s. ahead-mod place steps p s

pub returns-clause-there : goal.returns-clause-there
returns-clause-there c = λ place p hash h. ahead-distance place hash p h

pub returns-clause-back : goal.returns-clause-back
returns-clause-back c = λ place p steps s. distance-ahead place steps p s
