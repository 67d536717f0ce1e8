-- A running cluster, as clauses see it.
use Rattle.std.specs.Prelude.{ℕ, List, []}
use Rattle.silo_address.specs.Silo.{Silo}
use Rattle.hash_ring.specs.Ring.{ring_of}
use Rattle.directory_rules.specs.Settings.{Settings}
use Rattle.directory_rules.specs.World.{current_view, first_world}
use Rattle.published_rings.specs.Ends.{PublisherValue, first_publisher}
use Rattle.published_rings.specs.Shown.{Publication}

-- the silos for which workers were ever started, each of which has a part of the share, and what was published
pub record ClusterValue : Type 0 where
  pub workers : List Silo
  pub published : PublisherValue

-- before the first event: nobody works, and the ring of the first view is published, in that publication, with so many readers to be
-- handed out
abbrev pub first_cluster : Settings → Publication → ℕ → ClusterValue
first_cluster settings of readers = let world = first_world settings in record {
  workers = [];
  published = first_publisher of (ring_of (current_view world) world.places) readers;
}
