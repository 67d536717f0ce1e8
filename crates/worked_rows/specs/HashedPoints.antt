-- A worked script over hashed points, two a silo. The hashes were computed outside.
use Rattle.std.specs.Prelude.{[], ◌∷◌, codes}
use Rattle.texts.specs.Printed.{text_of_lines}
use Rattle.worked_rows.specs.Row.{Row}

-- a join that names a place, a ring of two points, an entry, the dump and its verdict
abbrev pub hashed_points : Row
hashed_points = record {
  script = text_of_lines
      (codes "join 10.0.0.1:1000@1 5"
      ∷ codes "join 10.0.0.1:1000@1"
      ∷ codes "see 10.0.0.1:1000@1 1"
      ∷ codes "settle"
      ∷ codes "wake 10.0.0.1:1000@1 user/ann#7"
      ∷ codes "settle"
      ∷ codes "owner 0"
      ∷ codes "owner 1116218512"
      ∷ codes "show"
      ∷ codes "dump"
      ∷ codes "check"
      ∷ []);
  text = text_of_lines
      (codes "refused 402"
      ∷ codes "view 1 joined 10.0.0.1:1000@1"
      ∷ codes "10.0.0.1:1000@1 sees 1 next sent 1..2"
      ∷ codes "delivered 1 query report sent 3..3"
      ∷ codes "delivered 2 query report sent 4..4"
      ∷ codes "delivered 3 report complete"
      ∷ codes "delivered 4 report complete"
      ∷ codes "started 10.0.0.1:1000@1!1 user/ann#7 sent 5..5"
      ∷ codes "delivered 5 register registered sent 6..6"
      ∷ codes "delivered 6 registered firm"
      ∷ codes "owner 0 10.0.0.1:1000@1 0"
      ∷ codes "owner 1116218512 10.0.0.1:1000@1 0"
      ∷ codes "version 1"
      ∷ codes "silo 10.0.0.1:1000@1 active seen 1 held 1"
      ∷ codes "held 10.0.0.1:1000@1!1 user/ann#7 firm"
      ∷ codes "range 1434877701+1302175457 10.0.0.1:1000@1 settled entries 0"
      ∷ codes "range 2737053158+2992791839 10.0.0.1:1000@1 settled entries 1"
      ∷ codes "{\"current\":1,\"hashing\":\"sha256\",\"nodes\":[{\"held\":[{\"activation\":\"10.0.0.1:1000@1!1\",\"grain\":\"user/ann#7\",\"phase\":\"firm\"}],\"pieces\":[{\"entries\":[],\"from\":\"\",\"range\":\"1434877701+1302175457\",\"state\":\"settled\"},{\"entries\":[[\"user/ann#7\",\"10.0.0.1:1000@1!1\"]],\"from\":\"\",\"range\":\"2737053158+2992791839\",\"state\":\"settled\"}],\"ring\":[[1434877701,\"10.0.0.1:1000@1\",1],[2737053158,\"10.0.0.1:1000@1\",0]],\"seen\":1,\"silo\":\"10.0.0.1:1000@1\"}],\"points\":2,\"rows\":[{\"dead\":0,\"joined\":1,\"left\":0,\"places\":[],\"silo\":\"10.0.0.1:1000@1\"}]}"
      ∷ codes "check ok"
      ∷ []);
  status = 0;
}
