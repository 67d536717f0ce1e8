-- How the fields of the code's node are the rule's node.
use Rattle.std.specs.Arc.{arc_value}
use Rattle.directory_rules.specs.State.{Node}
use Rattle.node_plans.specs.CacheModel.{cache_of}
use Rattle.directory_node.specs.declared.node.Node.TheInside.{Inside}

abbrev pub node_of : Inside → Node
node_of n = record {
  settings = n.settings;
  view = n.view;
  ring = arc_value n.ring;
  holding = n.holding;
  shelf = n.shelf;
  gatherings = n.gatherings.entries;
  recoveries = n.recoveries.entries;
  host = n.host;
  cache = cache_of n.cache;
}
