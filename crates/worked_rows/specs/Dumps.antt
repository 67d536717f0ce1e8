-- Worked rows: the verdict over dumps of one silo or two.
use Rattle.std.specs.Prelude.{ℕ, List, [], ◌∷◌, codes, None}
use Rattle.silo_address.specs.Silo.{Silo}
use Rattle.silo_address.specs.Grain.{Grain}
use Rattle.silo_address.specs.declared.Entry.{Entry}
use Rattle.ring_range.specs.Range.{Range}
use Rattle.hash_ring.specs.declared.hashing.Hashing.TheVariants.{Stated}
use Rattle.hash_ring.specs.declared.point.Point.{Point}
use Rattle.dump_rules.specs.Dump.{DumpPhase, Asking, Firm, DumpHeld, Settled, DumpPiece, DumpNode, DumpRow, DumpValue}
use Rattle.texts.specs.Printed.{text_of_lines}
use Rattle.worked_rows.specs.Row.{JudgedDump}

-- 10.0.0.1:1000@1 and 10.0.0.2:1000@1
abbrev pub silo_a : Silo
silo_a = record { ip = 10 ∷ 0 ∷ 0 ∷ 1 ∷ []; port = 1000; generation = 1 }

abbrev pub silo_b : Silo
silo_b = record { ip = 10 ∷ 0 ∷ 0 ∷ 2 ∷ []; port = 1000; generation = 1 }

-- the grain user/z#1, and its first activation on a silo
abbrev pub grain_z : Grain
grain_z = record { kind = codes "user"; key = codes "z#1" }

abbrev pub entry_z : Silo → Entry
entry_z silo = record { grain = grain_z; activation = record { silo = silo; count = 1 } }

abbrev pub held_z : Silo → DumpPhase → DumpHeld
held_z silo phase = record { activation = record { silo = silo; count = 1 }; grain = grain_z; phase = phase }

-- the circle and its halves
abbrev pub circle : Range
circle = record { start = 0; size = 4294967296 }

abbrev pub lower_half : Range
lower_half = record { start = 0; size = 2147483648 }

abbrev pub upper_half : Range
upper_half = record { start = 2147483648; size = 2147483648 }

abbrev pub settled_piece : Range → List Entry → DumpPiece
settled_piece range entries = record { entries = entries; from = None; range = range; state = Settled }

abbrev pub point_at : ℕ → Silo → Point
point_at place silo = record { place = place; silo = silo; index = 0 }

-- silo a has one place, 0, and silo b another one, 2147483648
abbrev pub row_a : DumpRow
row_a = record { dead = 0; joined = 1; left = 0; places = 0 ∷ []; silo = silo_a }

abbrev pub row_b : (dead : ℕ) → DumpRow
row_b dead = record { dead = dead; joined = 2; left = 0; places = 2147483648 ∷ []; silo = silo_b }

abbrev pub ring_a : List Point
ring_a = point_at 0 silo_a ∷ []

abbrev pub ring_ab : List Point
ring_ab = point_at 0 silo_a ∷ point_at 2147483648 silo_b ∷ []

-- silo a alone, in the first view
abbrev pub dump_a : DumpNode → DumpValue
dump_a node = record { current = 1; hashing = Stated; nodes = node ∷ []; points = 30; rows = row_a ∷ [] }

abbrev pub node_a : List DumpHeld → DumpPiece → List Point → (seen : ℕ) → DumpNode
node_a held piece ring seen = record { held = held; pieces = piece ∷ []; ring = ring; seen = seen; silo = silo_a }

-- silo b, which holds z firm and has seen version 2
abbrev pub node_b : DumpNode
node_b = record {
  held = held_z silo_b Firm ∷ [];
  pieces = settled_piece upper_half [] ∷ [];
  ring = ring_ab;
  seen = 2;
  silo = silo_b;
}

-- a grain is firm on two silos
abbrev pub check_two_firm : JudgedDump
check_two_firm = record {
  dump = record {
    current = 2;
    hashing = Stated;
    nodes = node_a (held_z silo_a Firm ∷ []) (settled_piece lower_half (entry_z silo_a ∷ [])) ring_ab 2 ∷ node_b ∷ [];
    points = 30;
    rows = row_a ∷ row_b 0 ∷ [];
  };
  bytes = codes "{\"current\":2,\"hashing\":\"stated\",\"nodes\":[{\"held\":[{\"activation\":\"10.0.0.1:1000@1!1\",\"grain\":\"user/z#1\",\"phase\":\"firm\"}],\"pieces\":[{\"entries\":[[\"user/z#1\",\"10.0.0.1:1000@1!1\"]],\"from\":\"\",\"range\":\"0+2147483648\",\"state\":\"settled\"}],\"ring\":[[0,\"10.0.0.1:1000@1\",0],[2147483648,\"10.0.0.2:1000@1\",0]],\"seen\":2,\"silo\":\"10.0.0.1:1000@1\"},{\"held\":[{\"activation\":\"10.0.0.2:1000@1!1\",\"grain\":\"user/z#1\",\"phase\":\"firm\"}],\"pieces\":[{\"entries\":[],\"from\":\"\",\"range\":\"2147483648+2147483648\",\"state\":\"settled\"}],\"ring\":[[0,\"10.0.0.1:1000@1\",0],[2147483648,\"10.0.0.2:1000@1\",0]],\"seen\":2,\"silo\":\"10.0.0.2:1000@1\"}],\"points\":30,\"rows\":[{\"dead\":0,\"joined\":1,\"left\":0,\"places\":[0],\"silo\":\"10.0.0.1:1000@1\"},{\"dead\":0,\"joined\":2,\"left\":0,\"places\":[2147483648],\"silo\":\"10.0.0.2:1000@1\"}]}";
  text = text_of_lines (codes "check 976 user/z#1" ∷ []);
  status = 1;
}

-- a node of a Dead silo is passed over
abbrev pub check_passes_over_the_dead : JudgedDump
check_passes_over_the_dead = record {
  dump = record {
    current = 3;
    hashing = Stated;
    nodes = record {
      held = held_z silo_a Firm ∷ [];
      pieces = settled_piece lower_half (entry_z silo_a ∷ []) ∷ settled_piece upper_half [] ∷ [];
      ring = ring_a;
      seen = 3;
      silo = silo_a;
    } ∷ node_b ∷ [];
    points = 30;
    rows = row_a ∷ row_b 3 ∷ [];
  };
  bytes = codes "{\"current\":3,\"hashing\":\"stated\",\"nodes\":[{\"held\":[{\"activation\":\"10.0.0.1:1000@1!1\",\"grain\":\"user/z#1\",\"phase\":\"firm\"}],\"pieces\":[{\"entries\":[[\"user/z#1\",\"10.0.0.1:1000@1!1\"]],\"from\":\"\",\"range\":\"0+2147483648\",\"state\":\"settled\"},{\"entries\":[],\"from\":\"\",\"range\":\"2147483648+2147483648\",\"state\":\"settled\"}],\"ring\":[[0,\"10.0.0.1:1000@1\",0]],\"seen\":3,\"silo\":\"10.0.0.1:1000@1\"},{\"held\":[{\"activation\":\"10.0.0.2:1000@1!1\",\"grain\":\"user/z#1\",\"phase\":\"firm\"}],\"pieces\":[{\"entries\":[],\"from\":\"\",\"range\":\"2147483648+2147483648\",\"state\":\"settled\"}],\"ring\":[[0,\"10.0.0.1:1000@1\",0],[2147483648,\"10.0.0.2:1000@1\",0]],\"seen\":2,\"silo\":\"10.0.0.2:1000@1\"}],\"points\":30,\"rows\":[{\"dead\":0,\"joined\":1,\"left\":0,\"places\":[0],\"silo\":\"10.0.0.1:1000@1\"},{\"dead\":3,\"joined\":2,\"left\":0,\"places\":[2147483648],\"silo\":\"10.0.0.2:1000@1\"}]}";
  text = text_of_lines (codes "check ok" ∷ []);
  status = 0;
}

-- all is right
abbrev pub check_ok : JudgedDump
check_ok = record {
  dump = dump_a (node_a [] (settled_piece circle []) ring_a 1);
  bytes = codes "{\"current\":1,\"hashing\":\"stated\",\"nodes\":[{\"held\":[],\"pieces\":[{\"entries\":[],\"from\":\"\",\"range\":\"0+4294967296\",\"state\":\"settled\"}],\"ring\":[[0,\"10.0.0.1:1000@1\",0]],\"seen\":1,\"silo\":\"10.0.0.1:1000@1\"}],\"points\":30,\"rows\":[{\"dead\":0,\"joined\":1,\"left\":0,\"places\":[0],\"silo\":\"10.0.0.1:1000@1\"}]}";
  text = text_of_lines (codes "check ok" ∷ []);
  status = 0;
}

-- a ring that isn't that of its view
abbrev pub check_ring : JudgedDump
check_ring = record {
  dump = dump_a (node_a [] (settled_piece circle []) (point_at 1 silo_a ∷ []) 1);
  bytes = codes "{\"current\":1,\"hashing\":\"stated\",\"nodes\":[{\"held\":[],\"pieces\":[{\"entries\":[],\"from\":\"\",\"range\":\"0+4294967296\",\"state\":\"settled\"}],\"ring\":[[1,\"10.0.0.1:1000@1\",0]],\"seen\":1,\"silo\":\"10.0.0.1:1000@1\"}],\"points\":30,\"rows\":[{\"dead\":0,\"joined\":1,\"left\":0,\"places\":[0],\"silo\":\"10.0.0.1:1000@1\"}]}";
  text = text_of_lines (codes "check 973 10.0.0.1:1000@1" ∷ []);
  status = 1;
}

-- a piece that lacks a hash
abbrev pub check_range : JudgedDump
check_range = record {
  dump = dump_a (node_a [] (settled_piece (record { start = 0; size = 4294967295 }) []) ring_a 1);
  bytes = codes "{\"current\":1,\"hashing\":\"stated\",\"nodes\":[{\"held\":[],\"pieces\":[{\"entries\":[],\"from\":\"\",\"range\":\"0+4294967295\",\"state\":\"settled\"}],\"ring\":[[0,\"10.0.0.1:1000@1\",0]],\"seen\":1,\"silo\":\"10.0.0.1:1000@1\"}],\"points\":30,\"rows\":[{\"dead\":0,\"joined\":1,\"left\":0,\"places\":[0],\"silo\":\"10.0.0.1:1000@1\"}]}";
  text = text_of_lines (codes "check 977 10.0.0.1:1000@1" ∷ []);
  status = 1;
}

-- a firm activation without an entry
abbrev pub check_missing_firm : JudgedDump
check_missing_firm = record {
  dump = dump_a (node_a (held_z silo_a Firm ∷ []) (settled_piece circle []) ring_a 1);
  bytes = codes "{\"current\":1,\"hashing\":\"stated\",\"nodes\":[{\"held\":[{\"activation\":\"10.0.0.1:1000@1!1\",\"grain\":\"user/z#1\",\"phase\":\"firm\"}],\"pieces\":[{\"entries\":[],\"from\":\"\",\"range\":\"0+4294967296\",\"state\":\"settled\"}],\"ring\":[[0,\"10.0.0.1:1000@1\",0]],\"seen\":1,\"silo\":\"10.0.0.1:1000@1\"}],\"points\":30,\"rows\":[{\"dead\":0,\"joined\":1,\"left\":0,\"places\":[0],\"silo\":\"10.0.0.1:1000@1\"}]}";
  text = text_of_lines (codes "check 974 user/z#1" ∷ []);
  status = 1;
}

-- an asking activation needs no entry
abbrev pub check_asking : JudgedDump
check_asking = record {
  dump = dump_a (node_a (held_z silo_a Asking ∷ []) (settled_piece circle []) ring_a 1);
  bytes = codes "{\"current\":1,\"hashing\":\"stated\",\"nodes\":[{\"held\":[{\"activation\":\"10.0.0.1:1000@1!1\",\"grain\":\"user/z#1\",\"phase\":\"asking\"}],\"pieces\":[{\"entries\":[],\"from\":\"\",\"range\":\"0+4294967296\",\"state\":\"settled\"}],\"ring\":[[0,\"10.0.0.1:1000@1\",0]],\"seen\":1,\"silo\":\"10.0.0.1:1000@1\"}],\"points\":30,\"rows\":[{\"dead\":0,\"joined\":1,\"left\":0,\"places\":[0],\"silo\":\"10.0.0.1:1000@1\"}]}";
  text = text_of_lines (codes "check ok" ∷ []);
  status = 0;
}

-- an entry of an activation that nobody holds
abbrev pub check_stranger : JudgedDump
check_stranger = record {
  dump = dump_a (node_a [] (settled_piece circle (entry_z silo_a ∷ [])) ring_a 1);
  bytes = codes "{\"current\":1,\"hashing\":\"stated\",\"nodes\":[{\"held\":[],\"pieces\":[{\"entries\":[[\"user/z#1\",\"10.0.0.1:1000@1!1\"]],\"from\":\"\",\"range\":\"0+4294967296\",\"state\":\"settled\"}],\"ring\":[[0,\"10.0.0.1:1000@1\",0]],\"seen\":1,\"silo\":\"10.0.0.1:1000@1\"}],\"points\":30,\"rows\":[{\"dead\":0,\"joined\":1,\"left\":0,\"places\":[0],\"silo\":\"10.0.0.1:1000@1\"}]}";
  text = text_of_lines (codes "check 975 user/z#1" ∷ []);
  status = 1;
}

-- a silo has seen a version that isn't made
abbrev pub check_seen_above_current : JudgedDump
check_seen_above_current = record {
  dump = dump_a (node_a [] (settled_piece circle []) ring_a 2);
  bytes = codes "{\"current\":1,\"hashing\":\"stated\",\"nodes\":[{\"held\":[],\"pieces\":[{\"entries\":[],\"from\":\"\",\"range\":\"0+4294967296\",\"state\":\"settled\"}],\"ring\":[[0,\"10.0.0.1:1000@1\",0]],\"seen\":2,\"silo\":\"10.0.0.1:1000@1\"}],\"points\":30,\"rows\":[{\"dead\":0,\"joined\":1,\"left\":0,\"places\":[0],\"silo\":\"10.0.0.1:1000@1\"}]}";
  text = text_of_lines (codes "check 972" ∷ []);
  status = 1;
}
