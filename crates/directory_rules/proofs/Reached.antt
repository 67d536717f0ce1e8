-- After any run whose joins name hashes each node's pieces are what its silo owns, and every sight keeps it so.
use Rattle.std.proofs.Common.{refl, sym, subst, ◌∙◌, List}
use Rattle.std.specs.Prelude.{All, IfOk}
use Rattle.std.specs.BTreeMap.{is_at}
use Rattle.std.proofs.lemmas.List.Elements.{All-nil}
use Rattle.silo_address.specs.Silo.{Silo, silo_cmp}
use Rattle.hash_ring.specs.Point.{IsOnCircle}
use Rattle.hash_ring.specs.Places.{IsPlaces}
use Rattle.directory_rules.specs.Settings.{Settings, AreSettings}
use Rattle.directory_rules.specs.Event.{Event}
use Rattle.directory_rules.specs.State.{Node}
use Rattle.directory_rules.specs.Run.{run_from_start}
use Rattle.directory_rules.specs.Laws.{NamesHashes, IsReached, NodesHoldOnce, SightsOfRunsAreOwned}
use Rattle.directory_rules.proofs.PlacesRun.{places_kept, first_places}
use Rattle.directory_rules.proofs.Nodes.{StepsKeepBy, Each, each_by, of_found}
use Rattle.directory_rules.proofs.Ranges.{held_by_ranges}
use Rattle.directory_rules.proofs.Owned.{Owned, stepped}
use Rattle.directory_rules.proofs.Sights.{sights_are_owned}

owned_keeps : StepsKeepBy NamesHashes IsPlaces Owned
owned_keeps = record {
  adding = λ places silo given next hashes kept is. places_kept places silo given next hashes kept is;
  new = λ settings silo. record { on_circle = All-nil IsOnCircle; once = λ hash below. refl; rising = tt };
  stepping = λ node input result brings is ok. subst (λ r. IfOk r (λ made. Owned made.node)) ok (stepped node input brings is);
}

-- places and nodes after such a run
pub reached : (settings : Settings) (events : List Event) → AreSettings settings → All NamesHashes events
    → Each IsPlaces Owned (run_from_start settings events).world
reached settings events in_range hashes =
    each_by NamesHashes IsPlaces Owned owned_keeps settings events (first_places settings in_range) hashes

-- a node that is reached
node_reached : (settings : Settings) (events : List Event) (silo : Silo) (node : Node) → IsReached settings events silo node → Owned node
node_reached settings events silo node is =
    of_found Owned (is_at (silo_cmp silo)) (run_from_start settings events).world.nodes node
    (reached settings events is.in_range is.hashes).nodes is.found

pub nodes_hold_once : NodesHoldOnce
nodes_hold_once settings events silo node is hash below =
    sym (held_by_ranges hash node.holding.pieces) ∙ (node_reached settings events silo node is).once hash below

pub sights_of_runs : SightsOfRunsAreOwned
sights_of_runs settings events silo node before view made is seen =
    sights_are_owned node before view (run_from_start settings events).world.places made
    (node_reached settings events silo node is).on_circle (reached settings events is.in_range is.hashes).places seen
