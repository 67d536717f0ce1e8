-- Worked rows: the dump of a world.
use Rattle.std.specs.Prelude.{[], ◌∷◌, codes}
use Rattle.texts.specs.Printed.{text_of_lines}
use Rattle.worked_rows.specs.Row.{Row}

-- a directory with one silo, dumped
abbrev pub dump : Row
dump = record {
  script = text_of_lines
      (codes "join 10.0.0.1:1000@1 0"
      ∷ codes "see 10.0.0.1:1000@1 1"
      ∷ codes "settle"
      ∷ codes "dump"
      ∷ []);
  text = text_of_lines
      (codes "view 1 joined 10.0.0.1:1000@1"
      ∷ codes "10.0.0.1:1000@1 sees 1 next sent 1..1"
      ∷ codes "delivered 1 query report sent 2..2"
      ∷ codes "delivered 2 report complete"
      ∷ codes "{\"current\":1,\"hashing\":\"stated\",\"nodes\":[{\"held\":[],\"pieces\":[{\"entries\":[],\"from\":\"\",\"range\":\"0+4294967296\",\"state\":\"settled\"}],\"ring\":[[0,\"10.0.0.1:1000@1\",0]],\"seen\":1,\"silo\":\"10.0.0.1:1000@1\"}],\"points\":30,\"rows\":[{\"dead\":0,\"joined\":1,\"left\":0,\"places\":[0],\"silo\":\"10.0.0.1:1000@1\"}]}"
      ∷ []);
  status = 0;
}
