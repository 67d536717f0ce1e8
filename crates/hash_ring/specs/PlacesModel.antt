-- What a slice that is lent, if one is, points to.
use Rattle.std.specs.Prelude.{ℕ, List, Option}
use Rattle.std.specs.Borrow.{Bor}
use Rattle.std.specs.Option.{option_copied}

abbrev pub lent : Option (Bor (List ℕ)) → Option (List ℕ)
lent slice = option_copied slice
