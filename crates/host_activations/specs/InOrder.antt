-- The order in which activations began: that of their counts.
use Rattle.std.specs.Prelude.{◌≡◌, ℕ, ⊤, List, [], ◌∷◌, nat_lt, if◌then◌else◌, fold, Some, slice_get}
use Rattle.silo_address.specs.Grain.{Grain}
use Rattle.directory_rules.specs.declared.Held.{Held}

-- among activations in the order in which they began, one more, before the first that began after it
abbrev pub placed : List (Grain × Held) → Grain × Held → List (Grain × Held)
placed [] e = e ∷ []
placed (x ∷ xs) e = if nat_lt e.1.count x.1.count then e ∷ x ∷ xs else x ∷ placed xs e

-- activations in the order in which they began
abbrev pub in_order : List (Grain × Held) → List (Grain × Held)
in_order es = fold placed [] es

-- at each of the indices stands the activation that is told
abbrev pub AreAt : List (Grain × Held) → (indices : List ℕ) → (told : List (Grain × Held)) → Type 0
AreAt es [] [] = ⊤
AreAt es [] (e ∷ told) = ⊥
AreAt es (i ∷ indices) [] = ⊥
AreAt es (i ∷ indices) (e ∷ told) = (slice_get es i ≡ Some e) × AreAt es indices told
