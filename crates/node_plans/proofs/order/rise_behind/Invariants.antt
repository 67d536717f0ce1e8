use Rattle.std.proofs.Common.{◌≡◌, length, [], ◌∷◌}
use Rattle.hash_ring.specs.Hash.{hash_grain}
use Rattle.directory_rules.specs.Standing.{rise_behind}
use Rattle.node_plans.proofs.order.rise_behind.Given as goal

-- what is left rises behind the last grain exactly where the whole does behind the first
abbrev pub invariant-loop-entry : goal.invariant-loop-entry
invariant-loop-entry l =
    rise_behind (hash_grain l.hashing) (l.range ∷ []) l.behind l.rest ≡ rise_behind (hash_grain l.hashing) (l.range ∷ []) l.fn.after l.entries

abbrev pub decreases-loop-entry : goal.decreases-loop-entry
decreases-loop-entry l = length l.rest
