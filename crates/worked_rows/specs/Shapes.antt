-- Lists that are no dump, each for one reason, and lists that are one at the edge of a rule. All are made of one right dump
-- of two silos by one change.
use Rattle.std.specs.Prelude.{List, [], ◌∷◌, ◌^◌, codes, Option, Some, None}
use Rattle.std.specs.List.{range_with_len}
use Rattle.silo_address.specs.Silo.{Silo}
use Rattle.silo_address.specs.Grain.{Grain}
use Rattle.silo_address.specs.declared.Entry.{Entry}
use Rattle.hash_ring.specs.declared.hashing.Hashing.TheVariants.{Sha256, Stated}
use Rattle.dump_rules.specs.Dump.{Firm, DumpHeld, DumpState, Settled, Awaiting, Recovering, DumpPiece, DumpNode, DumpRow, DumpValue}
use Rattle.worked_rows.specs.Dumps.{silo_a, silo_b, grain_z, entry_z, held_z, lower_half, upper_half, settled_piece, point_at, row_a, row_b, ring_ab, node_a}

-- ---- The right dump: silos a and b each own a half, and a holds z firm, with its entry.
abbrev pub piece_of_a : DumpPiece
piece_of_a = settled_piece lower_half (entry_z silo_a ∷ [])

abbrev pub piece_of_b : DumpPiece
piece_of_b = settled_piece upper_half []

abbrev pub node_of_a : DumpNode
node_of_a = node_a (held_z silo_a Firm ∷ []) piece_of_a ring_ab 2

abbrev pub node_of_b : DumpNode
node_of_b = record { held = []; pieces = piece_of_b ∷ []; ring = ring_ab; seen = 2; silo = silo_b }

abbrev pub right : DumpValue
right = record { current = 2; hashing = Stated; nodes = node_of_a ∷ node_of_b ∷ []; points = 30; rows = row_a ∷ row_b 0 ∷ [] }

-- the same with another first node, second node, first row, second row
abbrev pub with_a : DumpNode → DumpValue
with_a node = record right { nodes = node ∷ node_of_b ∷ [] }

abbrev pub with_b : DumpNode → DumpValue
with_b node = record right { nodes = node_of_a ∷ node ∷ [] }

abbrev pub with_row_a : DumpRow → DumpValue
with_row_a row = record right { rows = row ∷ row_b 0 ∷ [] }

abbrev pub with_row_b : DumpRow → DumpValue
with_row_b row = record right { rows = row_a ∷ row ∷ [] }

-- with another piece of silo b, with activations and entries of silo a
abbrev pub with_piece : DumpPiece → DumpValue
with_piece piece = with_b (record node_of_b { pieces = piece ∷ [] })

abbrev pub with_held : List DumpHeld → DumpValue
with_held held = with_a (record node_of_a { held = held })

abbrev pub with_entries : List Entry → DumpValue
with_entries entries = with_a (node_a (held_z silo_a Firm ∷ []) (settled_piece lower_half entries) ring_ab 2)

-- a silo that never joined, the grain user/y#2, and an entry of it
abbrev pub silo_c : Silo
silo_c = record { ip = 10 ∷ 0 ∷ 0 ∷ 3 ∷ []; port = 1000; generation = 1 }

abbrev pub grain_y : Grain
grain_y = record { kind = codes "user"; key = codes "y#2" }

abbrev pub entry_y : Entry
entry_y = record { grain = grain_y; activation = record { silo = silo_a; count = 2 } }

-- ---- Numbers out of their ranges.
abbrev pub current_too_high : DumpValue
current_too_high = record right { current = 2 ^ 64 }

abbrev pub dead_too_high : DumpValue
dead_too_high = with_row_b (row_b (2 ^ 64))

abbrev pub left_too_high : DumpValue
left_too_high = with_row_a (record row_a { left = 2 ^ 64 })

abbrev pub place_too_high : DumpValue
place_too_high = with_row_a (record row_a { places = 4294967296 ∷ [] })

abbrev pub point_too_high : DumpValue
point_too_high = with_b (record node_of_b { ring = point_at 0 silo_a ∷ point_at 4294967296 silo_b ∷ [] })

abbrev pub index_too_high : DumpValue
index_too_high = with_b (record node_of_b { ring = point_at 0 silo_a ∷ record { place = 2147483648; silo = silo_b; index = 2 ^ 64 } ∷ [] })

abbrev pub no_points : DumpValue
no_points = record right { points = 0 }

abbrev pub too_many_points : DumpValue
too_many_points = record right { points = 129 }

abbrev pub start_too_high : DumpValue
start_too_high = with_piece (settled_piece (record { start = 4294967296; size = 0 }) [])

abbrev pub size_too_high : DumpValue
size_too_high = with_piece (settled_piece (record { start = 2147483648; size = 4294967297 }) [])

-- ---- Silos.
abbrev pub row_twice : DumpValue
row_twice = record right { rows = row_a ∷ row_a ∷ row_b 0 ∷ [] }

abbrev pub node_twice : DumpValue
node_twice = record right { nodes = node_of_a ∷ node_of_b ∷ node_of_b ∷ [] }

abbrev pub node_without_row : DumpValue
node_without_row = record right { rows = row_a ∷ [] }

-- an entry names an activation of a silo that never joined
abbrev pub activation_without_row : DumpValue
activation_without_row = with_entries (entry_z silo_c ∷ [])

-- ---- Activations.
abbrev pub holds_of_another : DumpValue
holds_of_another = with_held (held_z silo_b Firm ∷ [])

-- one activation of two grains
abbrev pub activation_twice : DumpValue
activation_twice = with_held (held_z silo_a Firm ∷ record { activation = record { silo = silo_a; count = 1 }; grain = grain_y; phase = Firm } ∷ [])

-- two activations of one grain
abbrev pub grain_twice : DumpValue
grain_twice = with_held (held_z silo_a Firm ∷ record { activation = record { silo = silo_a; count = 2 }; grain = grain_z; phase = Firm } ∷ [])

-- ---- Versions and places.
abbrev pub seen_above_current : DumpValue
seen_above_current = with_b (record node_of_b { seen = 3 })

abbrev pub never_joined : DumpValue
never_joined = with_row_a (record row_a { joined = 0 })

abbrev pub joined_above_current : DumpValue
joined_above_current = with_row_b (record { dead = 0; joined = 3; left = 0; places = 2147483648 ∷ []; silo = silo_b })

abbrev pub no_places : DumpValue
no_places = with_row_a (record row_a { places = [] })

abbrev pub too_many_places : DumpValue
too_many_places = with_row_a (record row_a { places = range_with_len 0 129 })

-- places are named though points are hashed
abbrev pub places_under_sha256 : DumpValue
places_under_sha256 = record right { hashing = Sha256; points = 1 }

-- ---- Pieces.
abbrev pub piece_in : DumpState → Option Silo → List Entry → DumpPiece
piece_in state from entries = record { entries = entries; from = from; range = upper_half; state = state }

abbrev pub awaiting_with_entries : DumpValue
awaiting_with_entries = with_piece (piece_in Awaiting (Some silo_a) (entry_z silo_a ∷ []))

abbrev pub recovering_with_entries : DumpValue
recovering_with_entries = with_piece (piece_in Recovering None (entry_z silo_a ∷ []))

abbrev pub awaiting_from_nobody : DumpValue
awaiting_from_nobody = with_piece (piece_in Awaiting None [])

abbrev pub settled_from_somebody : DumpValue
settled_from_somebody = with_piece (piece_in Settled (Some silo_a) [])

abbrev pub recovering_from_somebody : DumpValue
recovering_from_somebody = with_piece (piece_in Recovering (Some silo_a) [])

-- ---- Orders.
abbrev pub rows_out_of_order : DumpValue
rows_out_of_order = record right { rows = row_b 0 ∷ row_a ∷ [] }

abbrev pub nodes_out_of_order : DumpValue
nodes_out_of_order = record right { nodes = node_of_b ∷ node_of_a ∷ [] }

abbrev pub pieces_out_of_order : DumpValue
pieces_out_of_order = with_b (record node_of_b {
  pieces = settled_piece (record { start = 3221225472; size = 1073741824 }) []
      ∷ settled_piece (record { start = 2147483648; size = 1073741824 }) [] ∷ [];
})

abbrev pub entries_out_of_order : DumpValue
entries_out_of_order = with_entries (entry_z silo_a ∷ entry_y ∷ [])

-- ---- Lists that are a dump; what is wrong with some of them is the verdict's affair.
-- a silo that isn't Dead has no node
abbrev pub node_missing : DumpValue
node_missing = record right { nodes = node_of_a ∷ [] }

-- the greatest version, and a death and a leave in versions that aren't made
abbrev pub versions_to_come : DumpValue
versions_to_come = record right { current = 18446744073709551615; rows = record row_a { left = 18446744073709551615 } ∷ row_b 18446744073709551615 ∷ [] }

-- the most points and the most places
abbrev pub most_points_and_places : DumpValue
most_points_and_places = record right { points = 128; rows = record row_a { places = range_with_len 0 128 } ∷ row_b 0 ∷ [] }

-- a piece is awaited from a silo that never joined
abbrev pub from_unknown : DumpValue
from_unknown = with_piece (piece_in Awaiting (Some silo_c) [])

-- two pieces begin at one place, and two entries are of one grain
abbrev pub equal_neighbours : DumpValue
equal_neighbours = record right {
  nodes = node_a (held_z silo_a Firm ∷ []) (settled_piece lower_half (entry_z silo_a ∷ entry_z silo_b ∷ [])) ring_ab 2
      ∷ record node_of_b { pieces = piece_of_b ∷ piece_of_b ∷ [] } ∷ [];
}

-- a ring's points out of order, one of them of a silo that never joined
abbrev pub any_ring : DumpValue
any_ring = with_b (record node_of_b { ring = point_at 9 silo_c ∷ ring_ab })
