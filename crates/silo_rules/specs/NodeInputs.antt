-- Which inputs of a silo's node need nothing but the node.
use Rattle.directory_rules.specs.Input.{Input, Sees, Does, Receives}

-- an input that is no sight
abbrev pub IsNoSight : Input → Type 0
IsNoSight (Sees before view places) = ⊥
IsNoSight (Does step) = Unit {0}
IsNoSight (Receives letter) = Unit {0}
