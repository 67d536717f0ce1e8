-- What holds in every world that a run reaches, whatever the settings and the events.
use Rattle.std.specs.Prelude.{◌≡◌, ℕ, ◌<◌, List, All, Some}
use Rattle.std.specs.Map.{keys_of}
use Rattle.silo_address.specs.Silo.{Silo, IsSilo}
use Rattle.silo_address.specs.Grain.{Grain}
use Rattle.ring_range.specs.Range.{circle}
use Rattle.hash_ring.specs.declared.Hashing.{Hashing}
use Rattle.hash_ring.specs.Hash.{hash_grain}
use Rattle.directory_rules.specs.Settings.{Settings, AreSettings}
use Rattle.directory_rules.specs.State.{Letter, Node, World}
use Rattle.directory_rules.specs.Event.{Event, IsEvent}
use Rattle.directory_rules.specs.Mail.{letter_of}
use Rattle.directory_rules.specs.Happens.{node_of}
use Rattle.directory_rules.specs.Run.{run_from_start}
use Rattle.directory_rules.specs.Laws.{NamesHashes, IsReached, HoldOwned}
use Rattle.directory_facts.specs.Own.{IsOwnNode, CountsOnce, IsOwnLetter}
use Rattle.directory_facts.specs.Seen.{SeesItsVersion, ArePlaced}
use Rattle.directory_facts.specs.Pieces.{HasPieces}
use Rattle.directory_facts.specs.Named.{HasNames}

-- the world after such events
abbrev pub world_by : Settings → List Event → World
world_by settings events = (run_from_start settings events).world

-- the world keeps its settings; each node is its silo's own, by them, and holds one activation a grain
abbrev pub SettingsStay : Type 0
SettingsStay = (settings : Settings) (events : List Event) → (world_by settings events).settings ≡ settings

abbrev pub NodesAreOwn : Type 0
NodesAreOwn = (settings : Settings) (events : List Event) (silo : Silo) (node : Node) → node_of (world_by settings events) silo ≡ Some node → IsOwnNode settings silo node

-- no two activations that a node holds have one count, so they are two
abbrev pub CountsAreApart : Type 0
CountsAreApart = (settings : Settings) (events : List Event) (silo : Silo) (node : Node) → node_of (world_by settings events) silo ≡ Some node → CountsOnce node.host

-- each silo that ever joined is in its range, and so is all that a node names
abbrev pub NamesAreInRange : Type 0
NamesAreInRange = (settings : Settings) (events : List Event) → AreSettings settings → All IsEvent events
    → All IsSilo (keys_of (world_by settings events).views.rows) × ((silo : Silo) (node : Node) → node_of (world_by settings events) silo ≡ Some node → HasNames node)

-- each letter in the mail is its sender's own
abbrev pub LettersAreOwn : Type 0
LettersAreOwn = (settings : Settings) (events : List Event) (number : ℕ) (letter : Letter) → letter_of (world_by settings events) number ≡ Some letter → IsOwnLetter settings letter

-- each node has the view of the version that it has seen, and the ring of that view
abbrev pub NodesSeeTheirVersions : Type 0
NodesSeeTheirVersions = (settings : Settings) (events : List Event) → AreSettings settings → (silo : Silo) (node : Node) → node_of (world_by settings events) silo ≡ Some node
    → SeesItsVersion (world_by settings events).views (world_by settings events).places node

-- each silo with a row has places
abbrev pub RowsHavePlaces : Type 0
RowsHavePlaces = (settings : Settings) (events : List Event) → AreSettings settings → ArePlaced settings (world_by settings events).views (world_by settings events).places

-- each node's pieces are ranges under their starts, which rise, each with the table of its range; and so is what it has of those
-- that it awaits and recovers
abbrev pub NodesHavePieces : Type 0
NodesHavePieces = (settings : Settings) (events : List Event) (silo : Silo) (node : Node) → IsReached settings events silo node → HasPieces settings.hashing node

-- the pieces hold each hash that the silo owns by its ring once, and no other, and each entry lies in its piece
abbrev pub PiecesAreOwned : Type 0
PiecesAreOwned = (settings : Settings) (events : List Event) (silo : Silo) (node : Node) → IsReached settings events silo node → HoldOwned settings.hashing node.ring.points silo node.holding.pieces

-- events whose values are in range name hashes
abbrev pub EventsNameHashes : Type 0
EventsNameHashes = (events : List Event) → All IsEvent events → All NamesHashes events

-- the hash of a grain is a hash
abbrev pub GrainsHaveHashes : Type 0
GrainsHaveHashes = (hashing : Hashing) (grain : Grain) → hash_grain hashing grain < circle
