-- What is used of a world that events reach, besides `Shown`: facts of the rule alone, from `directory_facts`.
use Rattle.std.proofs.Common.{◌≡◌, ℕ, ◌<◌, List, []}
use Rattle.std.specs.Prelude.{true, All, Some}
use Rattle.std.specs.Ordering.{nat_cmp}
use Rattle.std.specs.List.Sorted.{IsStrictlySortedBy}
use Rattle.std.specs.Map.{keys_of}
use Rattle.silo_address.specs.Silo.{Silo}
use Rattle.silo_address.specs.Grain.{Grain}
use Rattle.ring_range.specs.Range.{IsRange, holds}
use Rattle.hash_ring.specs.Places.{IsPlaces}
use Rattle.directory_rules.specs.declared.piece_state.PieceState.TheVariants.{Settled}
use Rattle.directory_rules.specs.Settings.{AreSettings}
use Rattle.directory_rules.specs.State.{Piece, Letter, Node, World}
use Rattle.directory_rules.specs.Mail.{letter_of}
use Rattle.directory_rules.specs.Happens.{node_of}
use Rattle.directory_rules.specs.Laws.{ArePeopled, IsOfOneVersion, AreNumbered, HoldOnce}
use Rattle.directory_facts.specs.Own.{IsOwnNode, IsOwnLetter}
use Rattle.directory_facts.specs.Seen.{SeesItsVersion}
use Rattle.directory_facts.proofs.SeenRings.{AreViews}
use Rattle.directory_facts.proofs.Tables.{InOrder}

-- the piece's entries lie in it; one that isn't settled has none
pub record IsPiece (hash : Grain → ℕ) (piece : Piece) : Type 0 where
  pub range : IsRange piece.range
  pub present : 0 < piece.range.size
  pub table : InOrder piece.entries
  pub inside : All (λ e. holds piece.range (hash e.1.grain) ≡ true) piece.entries
  pub empty : ¬ (piece.state ≡ Settled) → piece.entries ≡ []

-- pieces stand under their starts, in order
pub record ArePieces (hash : Grain → ℕ) (pieces : List (ℕ × Piece)) : Type 0 where
  pub rising : IsStrictlySortedBy nat_cmp (keys_of pieces)
  pub under_start : All (λ e. e.0 ≡ e.1.range.start) pieces
  pub each : All (λ e. IsPiece hash e.1) pieces

-- facts of a silo's node; `hash` is that of the settings
pub record NodeFacts (hash : Grain → ℕ) (f : World) (silo : Silo) (node : Node) : Type 0 where
  pub own : IsOwnNode f.settings silo node
  pub sees : SeesItsVersion f.views f.places node
  pub of_one_version : IsOfOneVersion node
  pub numbered : AreNumbered node.host
  pub once : HoldOnce node.ring.points node.host.silo node.holding.pieces
  pub pieces : ArePieces hash node.holding.pieces

-- facts of a world
pub record WorldFacts (hash : Grain → ℕ) (f : World) : Type 0 where
  pub settings : AreSettings f.settings
  pub views : AreViews f.settings f.views f.places
  pub places : IsPlaces f.places
  pub peopled : ArePeopled f.views f.nodes
  pub nodes : (silo : Silo) (node : Node) → node_of f silo ≡ Some node → NodeFacts hash f silo node
  pub letters : (number : ℕ) (letter : Letter) → letter_of f number ≡ Some letter → IsOwnLetter f.settings letter
