use Rattle.node_plans.proofs.Begun.{ArePassed, gathers}
use Rattle.node_plans.proofs.beginnings.new_gatherings.Given as goal

-- the gatherings of the pieces passed are there
abbrev pub invariant-loop-start : goal.invariant-loop-start
invariant-loop-start l = ArePassed (gathers l.view) l.pieces.entries l.start-iterator l.gatherings.entries
