-- Steps of private functions: what a hasher takes of the lines of entries, piece by piece.
use Rattle.std.specs.Prelude.{ℕ, List, [], ◌∷◌, ◌++◌, slice_index}
use Rattle.std.specs.Fmt.{decimal}
use Rattle.sha2.specs.Hashers.{Holds256}
use Rattle.sha2.specs.declared.Sha256.{Sha256}
use Rattle.silo_address.specs.Marks.{dot, colon}

-- the hasher has taken these bytes behind what it had taken
abbrev pub Takes : Sha256 → List ℕ → Sha256 → Type 0
Takes before bytes after = (text : List ℕ) → Holds256 before text → Holds256 after (text ++ bytes)

-- the four bytes of an address, dots between them and a colon behind
abbrev pub ip_text : List ℕ → List ℕ
ip_text ip =
    (decimal (slice_index ip 0) ++ dot ∷ []) ++ ((decimal (slice_index ip 1) ++ dot ∷ []) ++ ((decimal (slice_index ip 2) ++ dot ∷ []) ++ (decimal (slice_index ip 3) ++ colon ∷ [])))
