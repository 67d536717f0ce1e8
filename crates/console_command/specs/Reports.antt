-- What is told of letters and of places.
use Rattle.std.specs.Prelude.{◌≡◌, ℕ, List, [], ◌∷◌, Option, Some, None}
use Rattle.std.specs.List.{AllByRecursion}
use Rattle.silo_address.specs.Silo.{Silo}
use Rattle.membership_view.specs.View.{ViewValue}
use Rattle.directory_rules.specs.State.{Letter, World}
use Rattle.directory_rules.specs.Placement.{count_of}
use Rattle.directory_rules.specs.declared.policy.Policy.{Policy}
use Rattle.directory_rules.specs.declared.policy.Policy.TheVariants.{PreferLocal, HashBased, LeastHeld}
use Rattle.script_rules.specs.Show.{held_counts, letter_line}

-- the line of the letter of that number, if there is one
abbrev pub lines_of_letter : (number : ℕ) → Option Letter → List (List ℕ)
lines_of_letter number None = []
lines_of_letter number (Some letter) = letter_line number letter ∷ []

-- the counts tell of each silo in the view how many activations it holds now
abbrev pub CountsAll : World → ViewValue → List (Silo × ℕ) → Type 0
CountsAll world view counts = AllByRecursion (λ row. count_of counts row.0 ≡ count_of (held_counts world) row.0) view.rows

-- the counts tell what the policy looks at: that with the fewest activations at all of them, the others at none
abbrev pub CountsAsked : Policy → World → ViewValue → List (Silo × ℕ) → Type 0
CountsAsked PreferLocal world view counts = Unit {0}
CountsAsked HashBased world view counts = Unit {0}
CountsAsked LeastHeld world view counts = CountsAll world view counts
