-- How the code's cache, which may be none, is the rule's.
use Rattle.std.specs.Prelude.{Option, Some, None}
use Rattle.directory_rules.specs.State.{Cache}
use Rattle.directory_rules.specs.Cache.{new_cache}

-- a node without a cache has one for no entry
abbrev pub cache_of : Option Cache → Cache
cache_of None = new_cache 0
cache_of (Some cache) = cache
