-- Hashes: the numbers below 2^32 that stand on the circle.
use Rattle.std.specs.Prelude.{ℕ, List, ◌∷◌, ◌++◌, map, take, Option, Some, None}
use Rattle.std.specs.Int.{w32, from_be_bytes}
use Rattle.std.specs.Fmt.{decimal}
use Rattle.std.specs.List.{range_with_len}
use Rattle.sha2.specs.Sha256.{sha256}
use Rattle.silo_address.specs.Marks.{number_sign}
use Rattle.silo_address.specs.Silo.{Silo}
use Rattle.silo_address.specs.SiloText.{silo_text}
use Rattle.silo_address.specs.Grain.{Grain, grain_text}
use Rattle.silo_address.specs.StatedHash.{stated_hash}
use Rattle.hash_ring.specs.declared.hashing.Hashing.{Hashing}
use Rattle.hash_ring.specs.declared.hashing.Hashing.TheVariants.{Sha256, Stated}

-- the hash of a text: the first four bytes of its SHA-256 as one number, high byte first
abbrev pub hash_text : List ℕ → ℕ
hash_text bytes = from_be_bytes w32 (take 4 (sha256 bytes))

-- a stated hash, and where none is stated the hash of the grain's text
abbrev pub hash_stated : Option ℕ → Grain → ℕ
hash_stated (Some hash) grain = hash
hash_stated None grain = hash_text (grain_text grain)

-- the hash of a grain
abbrev pub hash_grain : Hashing → Grain → ℕ
hash_grain Sha256 grain = hash_text (grain_text grain)
hash_grain Stated grain = hash_stated (stated_hash grain.key) grain

-- the text that is hashed to the place of a silo's point: the silo, `#`, the point's index
abbrev pub point_text : Silo → ℕ → List ℕ
point_text silo index = silo_text silo ++ number_sign ∷ decimal index

-- the places of a silo's points under Sha256, so many of them
abbrev pub hashed_places : ℕ → Silo → List ℕ
hashed_places points silo = map (λ index. hash_text (point_text silo index)) (range_with_len 0 points)
