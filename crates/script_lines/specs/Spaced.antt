-- Words on their way into a line: each is written with a space behind it, and the last space becomes the line feed.
use Rattle.std.specs.Prelude.{◌≡◌, ℕ, List, [], ◌∷◌, ◌++◌}
use Rattle.texts.specs.Words.{space}

-- the words, each with a space behind it
unfoldable pub spaced : List (List ℕ) → List ℕ
spaced [] = []
spaced (word ∷ words) = word ++ space ∷ spaced words

-- the text begins with the front
pub record BeginsWith (front text : List ℕ) : Type 0 where
  pub more : List ℕ
  pub joined : text ≡ front ++ more
