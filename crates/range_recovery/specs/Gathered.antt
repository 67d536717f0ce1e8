-- Steps of private functions: grains that are taken out of a table again.
use Rattle.std.specs.Prelude.{List, [], ◌∷◌}
use Rattle.silo_address.specs.Grain.{Grain}
use Rattle.directory_rules.specs.State.{Table}
use Rattle.directory_rules.specs.Table.{without_grain}

-- the table without these grains, taken out from the last one to the first
abbrev pub without_grains : List Grain → Table → Table
without_grains [] table = table
without_grains (grain ∷ grains) table = without_grain grain (without_grains grains table)
