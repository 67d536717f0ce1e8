-- Bytes and the line feeds in them.
use Rattle.std.specs.Prelude.{◌≡◌, ℕ, suc, ◌<◌, List, [], ◌∷◌, length, take, drop, Option, Some, None}
use Rattle.texts.specs.Words.{line_feed, pieces_at}

-- no line feed stands in the bytes
abbrev pub IsOnePiece : List ℕ → Type 0
IsOnePiece bytes = pieces_at line_feed bytes ≡ bytes ∷ []

-- the first line feed in the bytes stands behind so many, or none does
abbrev pub IsEndedAfter : List ℕ → Option ℕ → Type 0
IsEndedAfter bytes None = IsOnePiece bytes
IsEndedAfter bytes (Some count) = (count < length bytes) × IsOnePiece (take count bytes) × (drop count bytes ≡ line_feed ∷ drop (suc count) bytes)
