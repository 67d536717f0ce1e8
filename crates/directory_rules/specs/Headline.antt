-- The headline: after any list of events, letters lost, repeated and reordered at will, every silo's ring is the ring sorted
-- anew from the view that it has seen; every range settled at the current view has each firm activation hashed into it,
-- otherwise only activations asking or closing on live silos, one a grain; unsettled ranges answer retry; and no grain has
-- two firm activations.
use Rattle.std.specs.Prelude.{◌≡◌, ◌≢◌, ℕ, List, All, AllPairs, Some, Ok}
use Rattle.silo_address.specs.Silo.{Silo}
use Rattle.silo_address.specs.Grain.{Grain}
use Rattle.membership_view.specs.Views.{view_at}
use Rattle.hash_ring.specs.Ring.{points_of, IsSortedAnew}
use Rattle.directory_rules.specs.declared.act.Request.{Request}
use Rattle.directory_rules.specs.declared.held.Held.{Held}
use Rattle.directory_rules.specs.declared.held.Phase.TheVariants.{Firm}
use Rattle.directory_rules.specs.declared.reply.Reply.{Reply}
use Rattle.directory_rules.specs.declared.reply.Reply.TheVariants as reply
use Rattle.directory_rules.specs.declared.reply.Why.{Why}
use Rattle.directory_rules.specs.declared.piece_state.PieceState.TheVariants.{Settled}
use Rattle.directory_rules.specs.Settings.{Settings, AreSettings}
use Rattle.directory_rules.specs.State.{Piece, Node, World, Accepted}
use Rattle.directory_rules.specs.Answer.{piece_with, answered}
use Rattle.directory_rules.specs.Event.{Event, IsEvent}
use Rattle.directory_rules.specs.Happens.{happens}
use Rattle.directory_rules.specs.Run.{run_from_start}
use Rattle.directory_rules.specs.Settled.{HasNode, IsSettledAt, entries_with, IsFirmOn, IsRightTable, IsRightOnLive}
use Rattle.directory_rules.specs.PlainMachine.{plain_of, plain_step_of, IsPlainStep}

-- every live silo's ring is the ring sorted anew from the view that it has seen
abbrev pub RingsAreSortedAnew : World → Type 0
RingsAreSortedAnew world = (silo : Silo) (node : Node) → HasNode world silo node → IsSortedAnew node.ring.points (points_of (view_at world.views node.view.version) world.places)

-- the table of a hash that is settled at the current version is right
abbrev pub SettledTablesAreRight : World → Type 0
SettledTablesAreRight world =
    (hash : ℕ) (silo : Silo) (node : Node) → IsSettledAt world world.views.version hash silo node → IsRightTable world hash (entries_with hash node)

-- and that of one settled at an earlier version is, as far as it has entries on live silos
abbrev pub EarlierTablesAreRight : World → Type 0
EarlierTablesAreRight world =
    (version hash : ℕ) (silo : Silo) (node : Node) → IsSettledAt world version hash silo node → IsRightOnLive world hash (entries_with hash node)

-- a request is answered by a retry
abbrev pub IsRetry : Reply → Type 0
IsRetry answer = (why : Why) × (answer ≡ reply.Retry why)

-- some silo has the hash settled at the version
abbrev pub IsSettledSomewhere : World → (version hash : ℕ) → Type 0
IsSettledSomewhere world version hash = (silo : Silo) × (node : Node) × IsSettledAt world version hash silo node

-- where nobody has a hash settled at the current version, every live silo answers a request of that version about it by a retry
abbrev pub UnsettledRangesRetry : World → Type 0
UnsettledRangesRetry world =
    (silo : Silo) (node : Node) (request : Request) → HasNode world silo node → request.version ≡ world.views.version
    → ¬ (IsSettledSomewhere world world.views.version request.hash) → IsRetry (answered node.holding request).reply

-- a piece that isn't settled serves no request, of any version
abbrev pub UnsettledPiecesRetry : World → Type 0
UnsettledPiecesRetry world =
    (silo : Silo) (node : Node) (request : Request) (piece : Piece) → HasNode world silo node → piece_with request.hash node.holding.pieces ≡ Some piece
    → ¬ (piece.state ≡ Settled) → IsRetry (answered node.holding request).reply

-- no grain is firm on two live silos
abbrev pub NoTwoFirm : World → Type 0
NoTwoFirm world = (grain : Grain) (s t : Silo) (x y : Held) → IsFirmOn world grain s x → IsFirmOn world grain t y → s ≡ t

-- and none is firm twice on one: of all the activations that a live silo holds, no two are firm and of one grain
abbrev pub NoneFirmTwice : World → Type 0
NoneFirmTwice world =
    (silo : Silo) (node : Node) → HasNode world silo node → AllPairs (λ e later. e.1.phase ≡ Firm → later.1.phase ≡ Firm → e.0 ≢ later.0) node.host.held

-- at most one silo has a hash settled, over all versions
abbrev pub OneSettles : World → Type 0
OneSettles world =
    (v w hash : ℕ) (s t : Silo) (x y : Node) → IsSettledAt world v hash s x → IsSettledAt world w hash t y → s ≡ t

-- what is promised of a world
pub record Headline (world : World) : Type 0 where
  pub rings : RingsAreSortedAnew world
  pub settled : SettledTablesAreRight world
  pub earlier : EarlierTablesAreRight world
  pub unsettled : UnsettledRangesRetry world
  pub pieces : UnsettledPiecesRetry world
  pub no_two_firm : NoTwoFirm world
  pub none_firm_twice : NoneFirmTwice world
  pub one_settles : OneSettles world

-- it holds of the world after each list of events
abbrev pub AfterAnyEvents : (World → Type 0) → Type 0
AfterAnyEvents Holds =
    (settings : Settings) (events : List Event) → AreSettings settings → All IsEvent events → Holds (run_from_start settings events).world

-- each event that is accepted is one step of the plain machine
abbrev pub MovesPlainly : World → Type 0
MovesPlainly world =
    (event : Event) (accepted : Accepted) → IsEvent event → happens world event ≡ Ok accepted
    → IsPlainStep (plain_of world) (plain_step_of accepted.outcome.happening) (plain_of accepted.world)
