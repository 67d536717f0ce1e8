-- What is settled of a range, hash by hash.
use Rattle.std.specs.Prelude.{◌≡◌, ℕ, true, List}
use Rattle.ring_range.specs.Range.{Range, EachHash, holds}
use Rattle.directory_rules.specs.State.{Piece}
use Rattle.directory_rules.specs.Laws.{lies_settled}

-- each hash of the range is in a settled piece
abbrev pub LiesSettled : List (ℕ × Piece) → Range → Type 0
LiesSettled pieces range = EachHash (λ hash. holds range hash ≡ true → lies_settled hash pieces ≡ true)
