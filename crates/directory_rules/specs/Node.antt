-- A node: all that one silo knows.
use Rattle.std.specs.Prelude.{[]}
use Rattle.silo_address.specs.Silo.{Silo}
use Rattle.directory_rules.specs.Settings.{Settings}
use Rattle.directory_rules.specs.State.{Node}
use Rattle.directory_rules.specs.Host.{new_host}
use Rattle.directory_rules.specs.Cache.{new_cache}

-- the node of a silo that has just joined: it has seen nothing
abbrev pub new_node : Settings → Silo → Node
new_node settings silo = record {
  settings = settings;
  view = record { version = 0; rows = [] };
  ring = record { version = 0; points = [] };
  holding = record { seen = 0; served = []; pieces = [] };
  shelf = [];
  gatherings = [];
  recoveries = [];
  host = new_host silo;
  cache = new_cache settings.cache;
}
