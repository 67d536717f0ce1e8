-- Settled hashes, and what makes the table of one right.
use Rattle.std.specs.Prelude.{◌≡◌, ◌≢◌, ℕ, ◌==◌, List, All, AllPairs, Contains, Some, filter, flat_map}
use Rattle.silo_address.specs.Silo.{Silo}
use Rattle.silo_address.specs.Grain.{Grain}
use Rattle.silo_address.specs.declared.ActivationId.{ActivationId}
use Rattle.silo_address.specs.declared.Entry.{Entry}
use Rattle.membership_view.specs.Views.{view_at}
use Rattle.hash_ring.specs.Hash.{hash_grain}
use Rattle.hash_ring.specs.Owner.{Owns}
use Rattle.hash_ring.specs.Ring.{points_of}
use Rattle.directory_rules.specs.declared.held.Held.{Held}
use Rattle.directory_rules.specs.declared.held.Phase.TheVariants.{Firm}
use Rattle.directory_rules.specs.declared.piece_state.PieceState.TheVariants.{Settled}
use Rattle.directory_rules.specs.Table.{entries_of}
use Rattle.directory_rules.specs.State.{Piece, Node, World}
use Rattle.directory_rules.specs.Answer.{piece_with}
use Rattle.directory_rules.specs.Host.{entry_on, held_of}
use Rattle.directory_rules.specs.Happens.{node_of}

-- the silo has the node, and so is live
abbrev pub HasNode : World → Silo → Node → Type 0
HasNode world silo node = node_of world silo ≡ Some node

-- the silo owns the hash in the view of the version, by the least distance back over all points of that view
abbrev pub OwnsIn : World → (version : ℕ) → Silo → (hash : ℕ) → Type 0
OwnsIn world version silo hash = Owns (points_of (view_at world.views version) world.places) silo hash

-- the silo has the hash settled at the version: it is live, has seen the version, owns the hash there, and the hash lies in
-- a settled piece
pub record IsSettledAt (world : World) (version hash : ℕ) (silo : Silo) (node : Node) : Type 0 where
  pub live : HasNode world silo node
  pub seen : node.view.version ≡ version
  pub owner : OwnsIn world version silo hash
  pub piece : Piece
  pub found : piece_with hash node.holding.pieces ≡ Some piece
  pub settled : piece.state ≡ Settled

-- the node's entries of grains with that hash
abbrev pub entries_with : (hash : ℕ) → Node → List Entry
entries_with hash node = filter (λ e. hash_grain node.settings.hashing e.grain == hash) (flat_map (λ p. entries_of p.1.entries) node.holding.pieces)

-- the live silo holds the activation for the grain, in some phase
pub record IsHeld (world : World) (grain : Grain) (activation : ActivationId) : Type 0 where
  pub node : Node
  pub live : HasNode world activation.silo node
  pub held : Held
  pub found : held_of node.host grain ≡ Some held
  pub count : held.count ≡ activation.count

-- the grain's activation is firm on the silo, which is live
pub record IsFirmOn (world : World) (grain : Grain) (silo : Silo) (held : Held) : Type 0 where
  pub node : Node
  pub live : HasNode world silo node
  pub found : held_of node.host grain ≡ Some held
  pub firm : held.phase ≡ Firm

-- the entries have each firm activation of a grain with that hash
abbrev pub AreComplete : World → (hash : ℕ) → List Entry → Type 0
AreComplete world hash entries =
    (grain : Grain) (silo : Silo) (held : Held) → hash_grain world.settings.hashing grain ≡ hash → IsFirmOn world grain silo held → Contains entries (entry_on silo grain held)

-- there is one entry a grain
abbrev pub AreOneAGrain : List Entry → Type 0
AreOneAGrain entries = AllPairs (λ e later. e.grain ≢ later.grain) entries

-- a right table at the current version: it has each firm activation of the hash, otherwise only activations that live silos
-- hold, and one entry a grain
pub record IsRightTable (world : World) (hash : ℕ) (entries : List Entry) : Type 0 where
  pub complete : AreComplete world hash entries
  pub held : All (λ e. IsHeld world e.grain e.activation) entries
  pub one_a_grain : AreOneAGrain entries

-- a right table at an earlier version may also have entries on silos that died since
pub record IsRightOnLive (world : World) (hash : ℕ) (entries : List Entry) : Type 0 where
  pub complete : AreComplete world hash entries
  pub held : All (λ e. (node : Node) → HasNode world e.activation.silo node → IsHeld world e.grain e.activation) entries
  pub one_a_grain : AreOneAGrain entries
