-- What holds of the rule, whatever happens.
use Rattle.std.specs.Prelude.{⊤, ◌&&◌, ◌≡◌, ◌≢◌, if◌then◌else◌, Bool, count_by, ℕ, ◌<◌, ◌≤◌, true, false, is_some, List, [], ◌∷◌, All, AllPairs, ◌++◌, length, Option, Some, None, Ok, Err}
use Rattle.std.specs.List.{list_any}
use Rattle.std.specs.List.Sorted.{IsStrictlySortedBy}
use Rattle.std.specs.Map.{keys_of, values_of, lookup}
use Rattle.std.specs.BTreeMap.{is_at}
use Rattle.silo_address.specs.Silo.{Silo, silo_cmp}
use Rattle.membership_view.specs.declared.status.Status.{Status}
use Rattle.membership_view.specs.declared.status.Status.TheVariants.{Active, Leaving, Dead}
use Rattle.membership_view.specs.Views.{ViewsValue, status_at}
use Rattle.membership_view.specs.Whole.{IsViews}
use Rattle.membership_view.specs.View.{ViewValue}
use Rattle.hash_ring.specs.declared.Hashing.{Hashing}
use Rattle.ring_range.specs.Range.{circle, EachHash, holds}
use Rattle.hash_ring.specs.declared.Point.{Point}
use Rattle.hash_ring.specs.Hash.{hash_grain}
use Rattle.hash_ring.specs.Point.{IsOnCircle}
use Rattle.hash_ring.specs.Places.{PlacesValue, IsPlaces}
use Rattle.range_moves.specs.declared.RingArc.{RingArc}
use Rattle.range_moves.specs.Arcs.{owner_silo}
use Rattle.directory_rules.specs.declared.act.Act.{Act}
use Rattle.directory_rules.specs.declared.act.Request.{Request}
use Rattle.directory_rules.specs.declared.reply.Why.{Why}
use Rattle.directory_rules.specs.declared.reply.Reply.TheVariants.{Retry}
use Rattle.directory_rules.specs.declared.piece_state.PieceState.TheVariants.{Settled}
use Rattle.directory_rules.specs.Settings.{Settings, AreSettings}
use Rattle.directory_rules.specs.State.{Piece, Holding, Snapshot, Host, Node, Posted, World, Accepted}
use Rattle.directory_rules.specs.Sight.{is_settled, was_settled, is_owner, sealed}
use Rattle.directory_rules.specs.Answer.{piece_with, answered}
use Rattle.directory_rules.specs.Host.{held_acts, find_acts, outstanding}
use Rattle.directory_rules.specs.Step.{Stepped, see}
use Rattle.directory_rules.specs.Event.{Event, Join, Leave, Kill, See, Do, Deliver, Lose}
use Rattle.directory_rules.specs.Mail.{letter_of}
use Rattle.directory_rules.specs.Happens.{happens, node_of}
use Rattle.directory_rules.specs.Run.{run, run_from_start}

-- a refused event leaves the world as it was
abbrev pub RefusalsChangeNothing : Type 0
RefusalsChangeNothing = (world : World) (event : Event) (number : ℕ) → happens world event ≡ Err number → (run world (event ∷ [])).world ≡ world

-- an accepted event leaves the world that it made
abbrev pub AcceptedChange : Type 0
AcceptedChange = (world : World) (event : Event) (accepted : Accepted) → happens world event ≡ Ok accepted → (run world (event ∷ [])).world ≡ accepted.world

-- the snapshot is of the view's version and of the silo, which had all of its range settled, and it is for another silo
pub record IsHandedOver (view : ViewValue) (silo : Silo) (pieces : List (ℕ × Piece)) (snapshot : Snapshot) : Type 0 where
  pub version : snapshot.version ≡ view.version
  pub from : snapshot.from ≡ silo
  pub to : snapshot.to ≢ silo
  pub settled : was_settled pieces snapshot.range ≡ true

-- what a sight seals was wholly settled, and its new owner is another silo
abbrev pub SealedWasSettled : Type 0
SealedWasSettled = (hashing : Hashing) (view : ViewValue) (silo : Silo) (pieces : List (ℕ × Piece)) (arcs : List RingArc) → All (IsHandedOver view silo pieces) (sealed hashing view silo pieces arcs)

-- each hash that the silo owns by the ring's points is in one of the pieces, and any other in none
abbrev pub HoldOnce : List Point → Silo → List (ℕ × Piece) → Type 0
HoldOnce points silo pieces = EachHash (λ hash. count_by (λ e. holds e.1.range hash) pieces ≡ (if is_owner silo (owner_silo points hash) then 1 else 0))

-- so it is, and each entry lies in its piece
pub record HoldOwned (hashing : Hashing) (points : List Point) (silo : Silo) (pieces : List (ℕ × Piece)) : Type 0 where
  pub once : HoldOnce points silo pieces
  pub placed : All (λ e. All (λ x. holds e.1.range (hash_grain hashing x.1.grain) ≡ true) e.1.entries) pieces

-- so it is after every sight: the pieces are what the silo owns in the view that it has seen
abbrev pub PiecesOfSightsAreOwned : Type 0
PiecesOfSightsAreOwned = (node : Node) (before view : ViewValue) (places : PlacesValue) (stepped : Stepped) → All IsOnCircle node.ring.points → IsPlaces places
    → see node before view places ≡ Ok stepped
    → HoldOwned node.settings.hashing stepped.node.ring.points node.host.silo stepped.node.holding.pieces

-- the places that a join names are hashes; other events name none
abbrev pub NamesHashes : Event → Type 0
NamesHashes (Join silo places) = All (λ place. place < circle) places
NamesHashes (Leave silo) = ⊤
NamesHashes (Kill silo) = ⊤
NamesHashes (See silo version) = ⊤
NamesHashes (Do silo step) = ⊤
NamesHashes (Deliver number) = ⊤
NamesHashes (Lose number) = ⊤

-- the silo has this node after such events
pub record IsReached (settings : Settings) (events : List Event) (silo : Silo) (node : Node) : Type 0 where
  pub in_range : AreSettings settings
  pub hashes : All NamesHashes events
  pub found : node_of (run_from_start settings events).world silo ≡ Some node

-- the pieces of each node that is reached hold each hash that it owns by its ring once, and no other
abbrev pub NodesHoldOnce : Type 0
NodesHoldOnce = (settings : Settings) (events : List Event) (silo : Silo) (node : Node) → IsReached settings events silo node → HoldOnce node.ring.points node.host.silo node.holding.pieces

-- and every sight of one leaves pieces that are what the silo owns, each entry in its piece
abbrev pub SightsOfRunsAreOwned : Type 0
SightsOfRunsAreOwned = (settings : Settings) (events : List Event) (silo : Silo) (node : Node) (before view : ViewValue) (stepped : Stepped) → IsReached settings events silo node
    → see node before view (run_from_start settings events).world.places ≡ Ok stepped
    → HoldOwned node.settings.hashing stepped.node.ring.points node.host.silo stepped.node.holding.pieces

-- letters whose numbers rise, from above one number to another at most
abbrev pub RiseBetween : (low high : ℕ) → List (ℕ × Posted) → Type 0
RiseBetween low high [] = low ≤ high
RiseBetween low high (e ∷ es) = (low < e.0) × RiseBetween e.0 high es

-- the mail's numbers rise, from 1 at least to the number of letters ever sent, and the limit bounds that
pub record IsMail (settings : Settings) (mail : List (ℕ × Posted)) (sent : ℕ) : Type 0 where
  pub rising : RiseBetween 0 sent mail
  pub many : length mail ≤ sent
  pub limited : sent ≤ settings.letters

-- so it is after each list of events
abbrev pub MailIsNumbered : Type 0
MailIsNumbered = (settings : Settings) (events : List Event) → IsMail settings (run_from_start settings events).world.mail (run_from_start settings events).world.sent

-- a letter that was lost is in no mail again
abbrev pub LostIsLost : Type 0
LostIsLost = (settings : Settings) (before after : List Event) (number : ℕ) (accepted : Accepted) → happens (run_from_start settings before).world (Lose number) ≡ Ok accepted
    → letter_of (run accepted.world after).world number ≡ None

-- whether a status is that of a silo which is there and isn't Dead
abbrev pub is_live : Option Status → Bool
is_live None = false
is_live (Some Active) = true
is_live (Some Leaving) = true
is_live (Some Dead) = false

-- the views keep what all views keep; nodes stand by address, and a silo has one just where it is in the current view and
-- isn't Dead there
pub record ArePeopled (views : ViewsValue) (nodes : List (Silo × Node)) : Type 0 where
  pub whole : IsViews views
  pub by_address : IsStrictlySortedBy silo_cmp (keys_of nodes)
  pub live : (silo : Silo) → is_some (lookup (is_at (silo_cmp silo)) nodes) ≡ is_live (status_at views views.version silo)

-- so it is after each list of events
abbrev pub LiveHaveNodes : Type 0
LiveHaveNodes = (settings : Settings) (events : List Event) → AreSettings settings → ArePeopled (run_from_start settings events).world.views (run_from_start settings events).world.nodes

-- the node's ring and holding are of the version that it has seen
pub record IsOfOneVersion (node : Node) : Type 0 where
  pub ring : node.ring.version ≡ node.view.version
  pub holding : node.holding.seen ≡ node.view.version

-- so is each node after each list of events
abbrev pub NodesAreOfOneVersion : Type 0
NodesAreOfOneVersion = (settings : Settings) (events : List Event) → All IsOfOneVersion (values_of (run_from_start settings events).world.nodes)

-- the requests of a host: those of its activations, and its finds
abbrev pub requests_of : Host → List (ℕ × Act)
requests_of host = held_acts host ++ find_acts host

-- no two requests of the host have one number, so that as many entries are outstanding as there are requests; and its next
-- number is above them all
pub record AreNumbered (host : Host) : Type 0 where
  pub distinct : AllPairs (λ e later. e.0 ≢ later.0) (requests_of host)
  pub many : length (outstanding host) ≡ length (requests_of host)
  pub below : All (λ e. e.0 < host.next_number) (requests_of host)

-- so is each node's host after each list of events
abbrev pub NumbersAreDistinct : Type 0
NumbersAreDistinct = (settings : Settings) (events : List Event) (silo : Silo) (node : Node) → node_of (run_from_start settings events).world silo ≡ Some node → AreNumbered node.host

-- a piece that isn't settled serves no request
abbrev pub UnsettledPieceServesNothing : Type 0
UnsettledPieceServesNothing = (holding : Holding) (request : Request) (piece : Piece) → piece_with request.hash holding.pieces ≡ Some piece → ¬ (piece.state ≡ Settled)
    → (why : Why) × ((answered holding request).reply ≡ Retry why)

-- whether the hash lies in a settled piece
abbrev pub lies_settled : ℕ → List (ℕ × Piece) → Bool
lies_settled hash pieces = list_any (λ e. is_settled e.1.state && holds e.1.range hash) pieces
