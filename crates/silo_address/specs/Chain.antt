-- Steps that each need the one before: the first that has nothing ends the chain.
use Rattle.std.specs.Prelude.{Option, Some, None}

infixl 10 ◌>>=◌
abbrev pub ◌>>=◌ : {A B : Type 0} → Option A → (A → Option B) → Option B
None >>= next = None
(Some value) >>= next = next value
