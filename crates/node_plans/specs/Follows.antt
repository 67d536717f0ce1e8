-- How a result of the code follows an outcome of the rule.
use Rattle.std.specs.Prelude.{◌≡◌, ℕ, Option, Some, None, Result, Ok, Err}

-- the rule refuses by that number; a refusal without one is out of memory, and comes only where that is excused
abbrev pub RefusesBy : {A : Type 0} → (excused : Result A ℕ → Type 0) → Option ℕ → Result A ℕ → Type 0
RefusesBy excused (Some number) outcome = outcome ≡ Err number
RefusesBy excused None outcome = excused outcome

-- the code's value is the rule's, or its refusal has the rule's number; out of memory comes only where the rule's outcome is
-- one that excuses it
abbrev pub Follows : {A B E : Type 0} → (value_of : B → A) → (number_of : E → Option ℕ) → (excused : Result A ℕ → Type 0) → Result A ℕ → Result B E → Type 0
Follows value_of number_of excused outcome (Ok value) = outcome ≡ Ok (value_of value)
Follows value_of number_of excused outcome (Err refusal) = RefusesBy excused (number_of refusal) outcome
