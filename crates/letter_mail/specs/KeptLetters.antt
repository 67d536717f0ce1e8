-- Keeping letters: grains only get numbers, and a grain keeps its own.
use Rattle.std.specs.Prelude.{◌≡◌, List, ◌++◌}

-- these grains, and maybe more behind them
abbrev pub Grows : {A : Type 0} → List A → List A → Type 0
Grows {A} before after = (more : List A) × (after ≡ before ++ more)
