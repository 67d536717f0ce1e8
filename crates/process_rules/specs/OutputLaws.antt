-- What the laws of the output say.
use Rattle.std.specs.Prelude.{◌≡◌, ℕ, List, ◌++◌, Some}
use Rattle.silo_address.specs.Silo.{Silo}
use Rattle.process_rules.specs.ReadLine.{Asked, Joined}

-- a text begins with the other
abbrev pub Begins : (beginning whole : List ℕ) → Type 0
Begins beginning whole = (rest : List ℕ) × (whole ≡ beginning ++ rest)

-- it tells the silo's own join, and carries the token
abbrev pub CarriesItsJoin : (own : Silo) → (token : List ℕ) → Asked → Type 0
CarriesItsJoin own token (Joined version silo stated places) = (silo ≡ own) × (stated ≡ Some token)
CarriesItsJoin own token other = ⊥
