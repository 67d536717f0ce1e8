-- Bytes sent to a sink.
use Rattle.std.specs.Prelude.{ℕ, Bool, true, false, List, Option}
use Rattle.std.specs.Io.KnownBytes.{Appends}
use Rattle.script_lines.specs.Spaced.{BeginsWith}

-- a beginning of the bytes is written
pub record WritesFront (bytes : List ℕ) (begun written : Option (List ℕ)) : Type 0 where
  pub front : List ℕ
  pub begins : BeginsWith front bytes
  pub appends : Appends begun written front

-- the bytes are written, or a beginning of them
abbrev pub Sends : List ℕ → Option (List ℕ) → Option (List ℕ) → Bool → Type 0
Sends bytes begun written true = Appends begun written bytes
Sends bytes begun written false = WritesFront bytes begun written
