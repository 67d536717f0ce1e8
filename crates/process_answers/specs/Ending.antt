-- How an answer to a change ends.
use Rattle.std.specs.Prelude.{◌≡◌, ℕ, Bool, true, false, List, [], ◌∷◌, ◌++◌, codes, Option, Some}
use Rattle.membership_view.specs.declared.status.Status.{Status}
use Rattle.membership_view.specs.declared.status.Status.TheVariants as status
use Rattle.texts.specs.Printed.{text_of_lines}

-- the last line of what is printed of a change, by what the silo is then
abbrev pub last_lines : Option Status → List (List ℕ)
last_lines (Some status.Dead) = codes "dead" ∷ []
last_lines other = []

-- whether the process ends by it
abbrev pub is_ending : Option Status → Bool
is_ending (Some status.Dead) = true
is_ending other = false

-- a silo that is Dead says so, and the process ends; any other says no more, and the process goes on
pub record EndsAsDead (own : Option Status) (before after : List ℕ) (ends : Bool) : Type 0 where
  pub prints : after ≡ before ++ text_of_lines (last_lines own)
  pub ending : ends ≡ is_ending own
