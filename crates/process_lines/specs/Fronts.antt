-- The first four words of a line, and those behind them.
use Rattle.std.specs.Prelude.{ℕ, List, [], ◌∷◌, Option, Some, None}
use Rattle.std.specs.Borrow.{Bor}
use Rattle.texts.specs.Words.{words_in}
use Rattle.process_lines.specs.declared.words.FourWords.{FourWords}

pub record Four : Type 0 where
  pub first : List ℕ
  pub second : List ℕ
  pub third : List ℕ
  pub fourth : List ℕ
  pub behind : List (List ℕ)

abbrev pub four_in : List (List ℕ) → Option Four
four_in [] = None
four_in (first ∷ []) = None
four_in (first ∷ second ∷ []) = None
four_in (first ∷ second ∷ third ∷ []) = None
four_in (first ∷ second ∷ third ∷ fourth ∷ words) = Some (record { first = first; second = second; third = third; fourth = fourth; behind = words })

-- what slices of a line point to
abbrev pub four_of : Option FourWords → Option Four
four_of None = None
four_of (Some words) =
    Some (record { first = words.first.now; second = words.second.now; third = words.third.now; fourth = words.fourth.now; behind = words_in words.behind.now })

-- the words, where there are four and no more
abbrev pub only_four_words : List (List ℕ) → Option (List ℕ × List ℕ × List ℕ × List ℕ)
only_four_words [] = None
only_four_words (first ∷ []) = None
only_four_words (first ∷ second ∷ []) = None
only_four_words (first ∷ second ∷ third ∷ []) = None
only_four_words (first ∷ second ∷ third ∷ fourth ∷ []) = Some (first, second, third, fourth)
only_four_words (first ∷ second ∷ third ∷ fourth ∷ fifth ∷ words) = None

-- what four slices point to
abbrev pub four_copied : Option (Bor (List ℕ) × Bor (List ℕ) × Bor (List ℕ) × Bor (List ℕ)) → Option (List ℕ × List ℕ × List ℕ × List ℕ)
four_copied None = None
four_copied (Some slices) = Some (slices.0.now, slices.1.now, slices.2.now, slices.3.now)
