-- Lines of one word, of two and of three.
use Rattle.std.specs.Prelude.{ℕ, List, [], ◌∷◌, Option, Some, None}
use Rattle.std.specs.Borrow.{Bor}

-- the word, where there is one
abbrev pub only_word : List (List ℕ) → Option (List ℕ)
only_word [] = None
only_word (word ∷ []) = Some word
only_word (word ∷ other ∷ words) = None

-- the words, where there are two
abbrev pub only_two_words : List (List ℕ) → Option (List ℕ × List ℕ)
only_two_words [] = None
only_two_words (first ∷ []) = None
only_two_words (first ∷ second ∷ []) = Some (first, second)
only_two_words (first ∷ second ∷ third ∷ words) = None

-- the words, where there are three
abbrev pub only_three_words : List (List ℕ) → Option (List ℕ × List ℕ × List ℕ)
only_three_words [] = None
only_three_words (first ∷ []) = None
only_three_words (first ∷ second ∷ []) = None
only_three_words (first ∷ second ∷ third ∷ []) = Some (first, second, third)
only_three_words (first ∷ second ∷ third ∷ fourth ∷ words) = None

-- what two slices point to
abbrev pub two_copied : Option (Bor (List ℕ) × Bor (List ℕ)) → Option (List ℕ × List ℕ)
two_copied None = None
two_copied (Some slices) = Some (slices.0.now, slices.1.now)

-- what three slices point to
abbrev pub three_copied : Option (Bor (List ℕ) × Bor (List ℕ) × Bor (List ℕ)) → Option (List ℕ × List ℕ × List ℕ)
three_copied None = None
three_copied (Some slices) = Some (slices.0.now, slices.1.now, slices.2.now)
