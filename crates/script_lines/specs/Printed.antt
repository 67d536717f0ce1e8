-- Lines as they are printed.
use Rattle.std.specs.Prelude.{ℕ, List, [], ◌∷◌, ◌++◌}
use Rattle.texts.specs.Words.{line_feed}

-- the line, and the line feed that ends it
abbrev pub printed : List ℕ → List ℕ
printed line = line ++ line_feed ∷ []
