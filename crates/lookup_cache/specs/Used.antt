-- A cache whose hint of a grain, if it has one, was used.
use Rattle.std.specs.Option.{option_map_or}
use Rattle.silo_address.specs.Grain.{Grain}
use Rattle.directory_rules.specs.State.{Cache}
use Rattle.directory_rules.specs.Cache.{hint_of, in_front}

-- the hint comes to the front
abbrev pub used : Cache → Grain → Cache
used cache grain = option_map_or (λ activation. in_front cache grain activation) (hint_of cache grain) cache
