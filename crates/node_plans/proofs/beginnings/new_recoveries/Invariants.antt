use Rattle.node_plans.proofs.Begun.{ArePassed, recovers}
use Rattle.node_plans.proofs.beginnings.new_recoveries.Given as goal

-- the recoveries of the pieces passed are there
abbrev pub invariant-loop-start : goal.invariant-loop-start
invariant-loop-start l = ArePassed (recovers l.view) l.pieces.entries l.start-iterator l.recoveries.entries
