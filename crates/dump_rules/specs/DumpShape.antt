-- The shape of a dump: what has to hold of lists before there is a verdict over them. Each rule is a test that computes, and
-- `is_dump` joins them all.
use Rattle.std.specs.Prelude.{ℕ, ◌^◌, ◌==◌, ◌&&◌, ◌||◌, nat_le, nat_lt, not, is_some, is_none, Bool, true, List, [], ◌∷◌, ◌++◌, map, length, Option}
use Rattle.std.specs.declared.cmp.Ordering.{Ordering}
use Rattle.std.specs.Ordering.{nat_cmp, is_lt}
use Rattle.std.specs.List.{list_all, list_any}
use Rattle.silo_address.specs.Silo.{Silo, silo_cmp, silo_eq}
use Rattle.silo_address.specs.Grain.{grain_cmp, grain_eq}
use Rattle.silo_address.specs.Activation.{activation_eq}
use Rattle.ring_range.specs.Range.{circle}
use Rattle.ring_range.specs.Text.{is_range}
use Rattle.hash_ring.specs.declared.point.Point.{Point}
use Rattle.hash_ring.specs.Places.{is_point_count, has_points, most_points}
use Rattle.dump_rules.specs.Dump.{DumpState, Settled, Awaiting, Recovering, DumpPiece, DumpNode, DumpRow, DumpValue}
use Rattle.dump_rules.specs.Verdict.{is_settled_state, node_entries}

-- ---- Lists.
-- no two items are the same
abbrev pub are_distinct_by : {X : Type 0} → (X → X → Bool) → List X → Bool
are_distinct_by same [] = true
are_distinct_by same (x ∷ xs) = not (list_any (same x) xs) && are_distinct_by same xs

-- no item is below the one before it; equal neighbours are in order
abbrev pub are_in_order : {X : Type 0} → (X → X → Ordering) → List X → Bool
are_in_order compare [] = true
are_in_order compare (x ∷ []) = true
are_in_order compare (x ∷ y ∷ rest) = not (is_lt (compare y x)) && are_in_order compare (y ∷ rest)

-- ---- Numbers. Versions and the indices of points are below 2^64, places are hashes, and ranges are ranges of the circle.
abbrev pub is_version : ℕ → Bool
is_version version = nat_lt version (2 ^ 64)

abbrev pub is_index : ℕ → Bool
is_index index = nat_lt index (2 ^ 64)

abbrev pub is_hash : ℕ → Bool
is_hash place = nat_lt place circle

-- the numbers of a row, a point, a piece and a node
abbrev pub has_row_numbers : DumpRow → Bool
has_row_numbers row = is_version row.dead && is_version row.joined && is_version row.left && list_all is_hash row.places

abbrev pub has_point_numbers : Point → Bool
has_point_numbers point = is_hash point.place && is_index point.index

abbrev pub has_piece_numbers : DumpPiece → Bool
has_piece_numbers piece = is_range piece.range

abbrev pub has_node_numbers : DumpNode → Bool
has_node_numbers node = is_version node.seen && list_all has_point_numbers node.ring && list_all has_piece_numbers node.pieces

-- a silo has 1 to 128 points where they are hashed
abbrev pub is_number_of_points : ℕ → Bool
is_number_of_points points = nat_lt 0 points && nat_le points most_points

-- all numbers of the dump are in their ranges
abbrev pub has_numbers : DumpValue → Bool
has_numbers dump =
    is_version dump.current && is_number_of_points dump.points && list_all has_row_numbers dump.rows && list_all has_node_numbers dump.nodes

-- ---- Silos. Each has one row and one node at most, and whoever is named has a row.
abbrev pub row_silos : DumpValue → List Silo
row_silos dump = map (λ row. row.silo) dump.rows

abbrev pub node_silos : DumpValue → List Silo
node_silos dump = map (λ node. node.silo) dump.nodes

-- no silo occurs twice among the rows, nor among the nodes
abbrev pub has_silos_once : DumpValue → Bool
has_silos_once dump = are_distinct_by silo_eq (row_silos dump) && are_distinct_by silo_eq (node_silos dump)

-- whether the silo ever joined
abbrev pub has_row : DumpValue → Silo → Bool
has_row dump silo = list_any (silo_eq silo) (row_silos dump)

-- the silos of the activations that a node holds, and of those that its entries name
abbrev pub activation_silos : DumpNode → List Silo
activation_silos node = map (λ held. held.activation.silo) node.held ++ map (λ entry. entry.activation.silo) (node_entries node)

-- the node's silo has a row, and so has the silo of each activation there
abbrev pub has_known_silos : DumpValue → DumpNode → Bool
has_known_silos dump node = has_row dump node.silo && list_all (has_row dump) (activation_silos node)

-- ---- Activations. A silo holds its own, each once, and one a grain.
abbrev pub holds_its_own : DumpNode → Bool
holds_its_own node = list_all (λ held. silo_eq held.activation.silo node.silo) node.held

abbrev pub holds_activations_once : DumpNode → Bool
holds_activations_once node = are_distinct_by activation_eq (map (λ held. held.activation) node.held)

abbrev pub holds_grains_once : DumpNode → Bool
holds_grains_once node = are_distinct_by grain_eq (map (λ held. held.grain) node.held)

-- ---- Versions. Nobody has seen, or joined in, one that isn't made; the first change made version 1.
abbrev pub has_seen_a_version : DumpValue → DumpNode → Bool
has_seen_a_version dump node = nat_le node.seen dump.current

abbrev pub has_joined : DumpValue → DumpRow → Bool
has_joined dump row = nat_lt 0 row.joined && nat_le row.joined dump.current

-- ---- Places. As many as a join may name: 1 to 128 where hashes are stated, and none where points are hashed.
abbrev pub has_places : DumpValue → DumpRow → Bool
has_places dump row = is_point_count dump.hashing (length row.places) && has_points dump.hashing (length row.places)

-- ---- Pieces. Only a settled one has entries, and just an awaiting one tells from whom.
abbrev pub has_entries_if_settled : DumpPiece → Bool
has_entries_if_settled piece = is_settled_state piece.state || (length piece.entries == 0)

abbrev pub tells_from : DumpState → Option Silo → Bool
tells_from Settled from = is_none from
tells_from Awaiting from = is_some from
tells_from Recovering from = is_none from

abbrev pub has_from_if_awaiting : DumpPiece → Bool
has_from_if_awaiting piece = tells_from piece.state piece.from

-- ---- Orders. Rows and nodes stand by address, pieces by start, entries by grain.
abbrev pub has_silos_in_order : DumpValue → Bool
has_silos_in_order dump = are_in_order silo_cmp (row_silos dump) && are_in_order silo_cmp (node_silos dump)

abbrev pub has_pieces_in_order : DumpNode → Bool
has_pieces_in_order node = are_in_order nat_cmp (map (λ piece. piece.range.start) node.pieces)

abbrev pub has_entries_in_order : DumpPiece → Bool
has_entries_in_order piece = are_in_order grain_cmp (map (λ entry. entry.grain) piece.entries)

-- ---- All rules.
abbrev pub is_row_of : DumpValue → DumpRow → Bool
is_row_of dump row = has_joined dump row && has_places dump row

abbrev pub is_piece : DumpPiece → Bool
is_piece piece = has_entries_if_settled piece && has_from_if_awaiting piece && has_entries_in_order piece

abbrev pub is_node_of : DumpValue → DumpNode → Bool
is_node_of dump node =
    has_known_silos dump node && holds_its_own node && holds_activations_once node && holds_grains_once node
    && has_seen_a_version dump node && has_pieces_in_order node && list_all is_piece node.pieces

-- what holds between the parts of the dump, whatever its numbers are
abbrev pub has_shape : DumpValue → Bool
has_shape dump =
    has_silos_once dump && has_silos_in_order dump && list_all (is_row_of dump) dump.rows && list_all (is_node_of dump) dump.nodes

-- whether the lists are a dump
unfoldable pub is_dump : DumpValue → Bool
is_dump dump = has_numbers dump && has_shape dump
