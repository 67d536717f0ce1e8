-- Words of a text: what stands between marks, and the sentence that words make.
use Rattle.std.specs.Prelude.{ℕ, ◌==◌, nat_lt, Bool, true, false, List, [], ◌∷◌, filter, length}
use Rattle.std.specs.List.{onto_first, join_with_byte}

-- the bytes that stand between
abbrev pub line_feed : ℕ
line_feed = 10

abbrev pub carriage_return : ℕ
carriage_return = 13

abbrev pub space : ℕ
space = 32

abbrev pub semicolon : ℕ
semicolon = 59

abbrev pub tilde : ℕ
tilde = 126

-- with a byte in front: a mark begins a new piece, another byte goes to the first one
abbrev pub with_byte : Bool → ℕ → List (List ℕ) → List (List ℕ)
with_byte true byte pieces = [] ∷ pieces
with_byte false byte pieces = onto_first byte pieces

-- the pieces into which a mark cuts the bytes: one more than there are marks
abbrev pub pieces_at : ℕ → List ℕ → List (List ℕ)
pieces_at mark [] = [] ∷ []
pieces_at mark (byte ∷ bytes) = with_byte (byte == mark) byte (pieces_at mark bytes)

-- whether there is a byte
abbrev pub is_some_bytes : List ℕ → Bool
is_some_bytes bytes = nat_lt 0 (length bytes)

-- the words of a line: what stands between its spaces
abbrev pub words_in : List ℕ → List (List ℕ)
words_in line = filter is_some_bytes (pieces_at space line)

-- the words in a row, with a space between two
abbrev pub sentence : List (List ℕ) → List ℕ
sentence words = join_with_byte space words
