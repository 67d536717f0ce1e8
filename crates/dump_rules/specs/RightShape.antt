-- What the rules of shape say of a dump, in the directory's own words.
use Rattle.std.specs.Prelude.{◌≡◌, ◌≢◌, ℕ, ◌<◌, ◌≤◌, ◌^◌, ◌⊎◌, List, [], map, length, All, AllPairs, Contains, Option, None, IsSome}
use Rattle.std.specs.Ordering.{nat_cmp}
use Rattle.std.specs.List.Sorted.{IsSorted}
use Rattle.silo_address.specs.Silo.{Silo, silo_cmp}
use Rattle.silo_address.specs.Grain.{grain_cmp}
use Rattle.ring_range.specs.Range.{circle, IsRange}
use Rattle.hash_ring.specs.declared.hashing.Hashing.{Hashing}
use Rattle.hash_ring.specs.declared.hashing.Hashing.TheVariants.{Sha256, Stated}
use Rattle.hash_ring.specs.declared.point.Point.{Point}
use Rattle.dump_rules.specs.Dump.{DumpState, Settled, Awaiting, Recovering, DumpPiece, DumpNode, DumpRow, DumpValue}
use Rattle.dump_rules.specs.DumpShape.{row_silos, node_silos, activation_silos}

-- no two items are the same
abbrev pub AreDistinct : {X : Type 0} → List X → Type 0
AreDistinct xs = AllPairs (λ x later. x ≢ later) xs

-- the numbers of a row, a point and a node are in their ranges
pub record HasRowNumbers (row : DumpRow) : Type 0 where
  pub dead : row.dead < 2 ^ 64
  pub joined : row.joined < 2 ^ 64
  pub left : row.left < 2 ^ 64
  pub places : All (λ place. place < circle) row.places

pub record HasPointNumbers (point : Point) : Type 0 where
  pub place : point.place < circle
  pub index : point.index < 2 ^ 64

pub record HasNodeNumbers (node : DumpNode) : Type 0 where
  pub seen : node.seen < 2 ^ 64
  pub ring : All HasPointNumbers node.ring
  pub pieces : All (λ piece. IsRange piece.range) node.pieces

-- so are all numbers of the dump
pub record HasNumbers (dump : DumpValue) : Type 0 where
  pub current : dump.current < 2 ^ 64
  pub points_above : 0 < dump.points
  pub points_within : dump.points ≤ 128
  pub rows : All HasRowNumbers dump.rows
  pub nodes : All HasNodeNumbers dump.nodes

-- how many places a join may name
abbrev pub MayName : Hashing → ℕ → Type 0
MayName Sha256 places = places ≡ 0
MayName Stated places = (0 < places) × (places ≤ 128)

-- the silo joined in a version that was made, with as many places as a join may name
pub record IsRowOf (dump : DumpValue) (row : DumpRow) : Type 0 where
  pub joined : 0 < row.joined
  pub made : row.joined ≤ dump.current
  pub places : MayName dump.hashing (length row.places)

-- just a piece that awaits its entries tells from whom
abbrev pub TellsFrom : DumpState → Option Silo → Type 0
TellsFrom Settled from = from ≡ None
TellsFrom Awaiting from = IsSome from
TellsFrom Recovering from = from ≡ None

-- only a settled piece has entries, and they stand by grain
pub record IsPiece (piece : DumpPiece) : Type 0 where
  pub entries : (piece.state ≡ Settled) ⊎ (piece.entries ≡ [])
  pub from : TellsFrom piece.state piece.from
  pub in_order : IsSorted grain_cmp (map (λ entry. entry.grain) piece.entries)

-- the silo joined, and so did whoever is named by an activation there; it holds its own, each once and one a grain, and has
-- seen a version that was made; its pieces stand by start
pub record IsNodeOf (dump : DumpValue) (node : DumpNode) : Type 0 where
  pub known : Contains (row_silos dump) node.silo
  pub known_activations : All (Contains (row_silos dump)) (activation_silos node)
  pub own : All (λ held. held.activation.silo ≡ node.silo) node.held
  pub activations_once : AreDistinct (map (λ held. held.activation) node.held)
  pub grains_once : AreDistinct (map (λ held. held.grain) node.held)
  pub seen : node.seen ≤ dump.current
  pub in_order : IsSorted nat_cmp (map (λ piece. piece.range.start) node.pieces)
  pub pieces : All IsPiece node.pieces

-- the lists are a dump: each silo has one row and one node at most, by address
pub record IsDump (dump : DumpValue) : Type 0 where
  pub numbers : HasNumbers dump
  pub rows_once : AreDistinct (row_silos dump)
  pub nodes_once : AreDistinct (node_silos dump)
  pub rows_in_order : IsSorted silo_cmp (row_silos dump)
  pub nodes_in_order : IsSorted silo_cmp (node_silos dump)
  pub rows : All (IsRowOf dump) dump.rows
  pub nodes : All (IsNodeOf dump) dump.nodes
