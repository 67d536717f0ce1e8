-- Whose letters a sender writes.
use Rattle.std.specs.Prelude.{ℕ, ◌++◌, List, [], flat_map, map}
use Rattle.ring_range.specs.Range.{Range}
use Rattle.directory_rules.specs.Cache.{new_cache}
use Rattle.directory_rules.specs.State.{Letter, Node, Piece, Query_letter, Recovery}
use Rattle.directory_rules.specs.Recovery.{told_by}
use Rattle.directory_rules.specs.Sent.{asks_by, letter_to, recovering_ranges, survey_letters, wants_by}
use Rattle.node_plans.specs.declared.plan.Sight.{Sight}
use Rattle.node_plans.specs.declared.senders.Sender.{Sender}

-- the node without pieces, snapshots and hints: its letters depend on none of them
abbrev pub bare : Node → Node
bare node = record node { holding = record { seen = 0; served = []; pieces = [] }; shelf = []; cache = new_cache 0 }

-- the node, as it will be once it has seen the view, as far as its letters depend on it
abbrev pub sending : Sender → Node
sending s = record {
  settings = s.settings.now;
  view = s.view.now;
  ring = s.ring.now;
  holding = record { seen = 0; served = []; pieces = [] };
  shelf = [];
  gatherings = s.gatherings.now.entries;
  recoveries = s.recoveries.now.entries;
  host = s.host.now;
  cache = new_cache 0;
}

-- a query for the range to each silo that the recovery awaits, by address, behind what it has told there
abbrev pub queries_of : Node → Range → Recovery → List Letter
queries_of node range recovery = map (λ silo. letter_to silo node (Query_letter range (told_by silo recovery))) recovery.awaiting

-- what such pieces of a node want
abbrev pub wants_of : Node → List (ℕ × Piece) → List Letter
wants_of node pieces = flat_map (λ e. wants_by e.1.state node e.1.range) pieces

-- what such pieces of a node want where they are new: the asks, piece by piece, and then the surveys
abbrev pub asks_of : Node → List (ℕ × Piece) → List Letter
asks_of node pieces = flat_map (λ e. asks_by e.1.state node e.1.range) pieces

abbrev pub new_wants_of : Node → List (ℕ × Piece) → List Letter
new_wants_of node pieces = asks_of node pieces ++ survey_letters node (recovering_ranges pieces)

-- the node with all of a sight on which its letters depend
abbrev pub ahead : Sight → Node → Node
ahead sight node = record node { view = sight.view; ring = sight.transition.ring; gatherings = sight.gatherings.entries; recoveries = sight.recoveries.entries }
