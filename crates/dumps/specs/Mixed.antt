-- Numbers mixed from the texts of grains.
use Rattle.std.specs.Prelude.{ℕ, ◌+◌, ◌<◌, List, get_or, length, map}
use Rattle.std.specs.Borrow.{Bor}
use Rattle.std.specs.Hash.FoldHasher as folding
use Rattle.silo_address.specs.Grain.{Grain, grain_text}

-- the number of a grain, folded from its text, several bytes at once; other grains may have it too
unfoldable pub mixed : Grain → ℕ
mixed grain = folding.finish (folding.write folding.initial (grain_text grain))

-- what stands behind references
abbrev pub grains_lent : List (Bor Grain) → List Grain
grains_lent grains = map (λ grain. grain.now) grains

-- each number is above the one before it
abbrev pub Rises : List ℕ → Type 0
Rises numbers = (index : ℕ) (d : ℕ) → index + 1 < length numbers → get_or numbers index d < get_or numbers (index + 1) d
