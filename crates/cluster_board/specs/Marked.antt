-- Marks that a board keeps of its silos' nodes.
use Rattle.std.specs.Prelude.{◌≡◌, ◌⊎◌, IfSome, List, Option, Some}
use Rattle.std.specs.Map.{lookup}
use Rattle.std.specs.BTreeMap.{is_at}
use Rattle.silo_address.specs.Silo.{Silo, silo_cmp}
use Rattle.directory_rules.specs.State.{Node, World}
use Rattle.directory_rules.specs.Happens.{node_of}

-- the node that a silo's mark is of, if it has one
abbrev pub marked_at : List (Silo × Node) → Silo → Option Node
marked_at marks silo = lookup (is_at (silo_cmp silo)) marks

-- each mark is of the node that the silo has now
abbrev pub AreMarks : World → List (Silo × Node) → Type 0
AreMarks world marks = (silo : Silo) → IfSome (marked_at marks silo) (λ node. node_of world silo ≡ Some node)

-- each of the marks was one of those before
abbrev pub AreLeft : (before : List (Silo × Node)) → (marks : List (Silo × Node)) → Type 0
AreLeft before marks = (silo : Silo) → IfSome (marked_at marks silo) (λ node. marked_at before silo ≡ Some node)

-- each of the marks was one of those before, or is the silo's, of this node
abbrev pub AreMore : Silo → Node → (before : List (Silo × Node)) → (marks : List (Silo × Node)) → Type 0
AreMore silo its before marks = (other : Silo) → IfSome (marked_at marks other) (λ node. (marked_at before other ≡ Some node) ⊎ ((other ≡ silo) × (node ≡ its)))
