-- What a program prints: lines, and the exit status with which it ends.
use Rattle.std.specs.Prelude.{ℕ, List, [], ◌∷◌, ◌++◌, flat_map}
use Rattle.texts.specs.Words.{line_feed}

-- the bytes of lines: each ends with a line feed
abbrev pub text_of_lines : List (List ℕ) → List ℕ
text_of_lines lines = flat_map (λ line. line ++ line_feed ∷ []) lines

-- all that is printed, and the status at the end
pub record Output : Type 0 where
  pub text : List ℕ
  pub status : ℕ
