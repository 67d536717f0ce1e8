-- Worked rows: rings and the owners of hashes.
use Rattle.std.specs.Prelude.{[], ◌∷◌, codes}
use Rattle.texts.specs.Printed.{text_of_lines}
use Rattle.worked_rows.specs.Row.{Row}

-- one point owns every hash
abbrev pub one_owner : Row
one_owner = record {
  script = text_of_lines
      (codes "join 10.0.0.1:1000@1 1073741824"
      ∷ codes "owner 0"
      ∷ []);
  text = text_of_lines
      (codes "view 1 joined 10.0.0.1:1000@1"
      ∷ codes "owner 0 10.0.0.1:1000@1 0"
      ∷ []);
  status = 0;
}

-- its range is the circle from its place on
abbrev pub one_owner_range : Row
one_owner_range = record {
  script = text_of_lines
      (codes "join 10.0.0.1:1000@1 1073741824"
      ∷ codes "show"
      ∷ []);
  text = text_of_lines
      (codes "view 1 joined 10.0.0.1:1000@1"
      ∷ codes "version 1"
      ∷ codes "silo 10.0.0.1:1000@1 active seen 0 held 0"
      ∷ codes "range 1073741824+4294967296 10.0.0.1:1000@1 unsettled"
      ∷ []);
  status = 0;
}

-- of two silos at one place the lesser address owns, and after its death the other
abbrev pub one_place_shared : Row
one_place_shared = record {
  script = text_of_lines
      (codes "join 10.0.0.1:1000@1 0 2147483648"
      ∷ codes "see 10.0.0.1:1000@1 1"
      ∷ codes "settle"
      ∷ codes "join 10.0.0.2:1000@1 2147483648"
      ∷ codes "sync"
      ∷ codes "owner 3000000000"
      ∷ codes "kill 10.0.0.1:1000@1"
      ∷ codes "sync"
      ∷ codes "settle"
      ∷ codes "owner 3000000000"
      ∷ []);
  text = text_of_lines
      (codes "view 1 joined 10.0.0.1:1000@1"
      ∷ codes "10.0.0.1:1000@1 sees 1 next sent 1..2"
      ∷ codes "delivered 1 query report sent 3..3"
      ∷ codes "delivered 2 query report sent 4..4"
      ∷ codes "delivered 3 report complete"
      ∷ codes "delivered 4 report complete"
      ∷ codes "view 2 joined 10.0.0.2:1000@1"
      ∷ codes "10.0.0.1:1000@1 sees 2 next"
      ∷ codes "10.0.0.2:1000@1 sees 2 next"
      ∷ codes "owner 3000000000 10.0.0.1:1000@1 1"
      ∷ codes "view 3 dead 10.0.0.1:1000@1"
      ∷ codes "10.0.0.2:1000@1 sees 3 next sent 5..6"
      ∷ codes "delivered 5 query report sent 7..7"
      ∷ codes "delivered 6 query report sent 8..8"
      ∷ codes "delivered 7 report complete"
      ∷ codes "delivered 8 report complete"
      ∷ codes "owner 3000000000 10.0.0.2:1000@1 0"
      ∷ []);
  status = 0;
}

-- the same, with the ranges shown
abbrev pub one_place_shared_range : Row
one_place_shared_range = record {
  script = text_of_lines
      (codes "join 10.0.0.1:1000@1 0 2147483648"
      ∷ codes "see 10.0.0.1:1000@1 1"
      ∷ codes "settle"
      ∷ codes "join 10.0.0.2:1000@1 2147483648"
      ∷ codes "sync"
      ∷ codes "owner 3000000000"
      ∷ codes "kill 10.0.0.1:1000@1"
      ∷ codes "sync"
      ∷ codes "settle"
      ∷ codes "owner 3000000000"
      ∷ codes "show"
      ∷ []);
  text = text_of_lines
      (codes "view 1 joined 10.0.0.1:1000@1"
      ∷ codes "10.0.0.1:1000@1 sees 1 next sent 1..2"
      ∷ codes "delivered 1 query report sent 3..3"
      ∷ codes "delivered 2 query report sent 4..4"
      ∷ codes "delivered 3 report complete"
      ∷ codes "delivered 4 report complete"
      ∷ codes "view 2 joined 10.0.0.2:1000@1"
      ∷ codes "10.0.0.1:1000@1 sees 2 next"
      ∷ codes "10.0.0.2:1000@1 sees 2 next"
      ∷ codes "owner 3000000000 10.0.0.1:1000@1 1"
      ∷ codes "view 3 dead 10.0.0.1:1000@1"
      ∷ codes "10.0.0.2:1000@1 sees 3 next sent 5..6"
      ∷ codes "delivered 5 query report sent 7..7"
      ∷ codes "delivered 6 query report sent 8..8"
      ∷ codes "delivered 7 report complete"
      ∷ codes "delivered 8 report complete"
      ∷ codes "owner 3000000000 10.0.0.2:1000@1 0"
      ∷ codes "version 3"
      ∷ codes "silo 10.0.0.1:1000@1 dead"
      ∷ codes "silo 10.0.0.2:1000@1 active seen 3 held 0"
      ∷ codes "range 2147483648+4294967296 10.0.0.2:1000@1 settled entries 0"
      ∷ []);
  status = 0;
}

-- no silo is Active: no hash has an owner, a find takes a number and sends nothing; the next owner recovers
abbrev pub no_owner : Row
no_owner = record {
  script = text_of_lines
      (codes "join 10.0.0.1:1000@1 0"
      ∷ codes "see 10.0.0.1:1000@1 1"
      ∷ codes "settle"
      ∷ codes "wake 10.0.0.1:1000@1 user/a#1"
      ∷ codes "settle"
      ∷ codes "leave 10.0.0.1:1000@1"
      ∷ codes "see 10.0.0.1:1000@1 2"
      ∷ codes "owner 1"
      ∷ codes "find 10.0.0.1:1000@1 user/b#2"
      ∷ codes "join 10.0.0.2:1000@1 0"
      ∷ codes "see 10.0.0.1:1000@1 3"
      ∷ codes "deliver 5"
      ∷ codes "see 10.0.0.2:1000@1 3"
      ∷ codes "settle"
      ∷ []);
  text = text_of_lines
      (codes "view 1 joined 10.0.0.1:1000@1"
      ∷ codes "10.0.0.1:1000@1 sees 1 next sent 1..1"
      ∷ codes "delivered 1 query report sent 2..2"
      ∷ codes "delivered 2 report complete"
      ∷ codes "started 10.0.0.1:1000@1!1 user/a#1 sent 3..3"
      ∷ codes "delivered 3 register registered sent 4..4"
      ∷ codes "delivered 4 registered firm"
      ∷ codes "view 2 leaving 10.0.0.1:1000@1"
      ∷ codes "10.0.0.1:1000@1 sees 2 next"
      ∷ codes "owner 1 none"
      ∷ codes "finding user/b#2"
      ∷ codes "view 3 joined 10.0.0.2:1000@1"
      ∷ codes "10.0.0.1:1000@1 sees 3 next sent 5..5"
      ∷ codes "delivered 5 find retry 601 sent 6..6"
      ∷ codes "10.0.0.2:1000@1 sees 3 next sent 7..8"
      ∷ codes "delivered 6 retry noted"
      ∷ codes "delivered 7 query report sent 9..9"
      ∷ codes "delivered 8 query report sent 10..10"
      ∷ codes "delivered 9 report more"
      ∷ codes "delivered 10 report complete"
      ∷ []);
  status = 0;
}

-- the same, and the one entry is there again
abbrev pub no_owner_one_entry : Row
no_owner_one_entry = record {
  script = text_of_lines
      (codes "join 10.0.0.1:1000@1 0"
      ∷ codes "see 10.0.0.1:1000@1 1"
      ∷ codes "settle"
      ∷ codes "wake 10.0.0.1:1000@1 user/a#1"
      ∷ codes "settle"
      ∷ codes "leave 10.0.0.1:1000@1"
      ∷ codes "see 10.0.0.1:1000@1 2"
      ∷ codes "owner 1"
      ∷ codes "find 10.0.0.1:1000@1 user/b#2"
      ∷ codes "join 10.0.0.2:1000@1 0"
      ∷ codes "see 10.0.0.1:1000@1 3"
      ∷ codes "deliver 5"
      ∷ codes "see 10.0.0.2:1000@1 3"
      ∷ codes "settle"
      ∷ codes "show"
      ∷ []);
  text = text_of_lines
      (codes "view 1 joined 10.0.0.1:1000@1"
      ∷ codes "10.0.0.1:1000@1 sees 1 next sent 1..1"
      ∷ codes "delivered 1 query report sent 2..2"
      ∷ codes "delivered 2 report complete"
      ∷ codes "started 10.0.0.1:1000@1!1 user/a#1 sent 3..3"
      ∷ codes "delivered 3 register registered sent 4..4"
      ∷ codes "delivered 4 registered firm"
      ∷ codes "view 2 leaving 10.0.0.1:1000@1"
      ∷ codes "10.0.0.1:1000@1 sees 2 next"
      ∷ codes "owner 1 none"
      ∷ codes "finding user/b#2"
      ∷ codes "view 3 joined 10.0.0.2:1000@1"
      ∷ codes "10.0.0.1:1000@1 sees 3 next sent 5..5"
      ∷ codes "delivered 5 find retry 601 sent 6..6"
      ∷ codes "10.0.0.2:1000@1 sees 3 next sent 7..8"
      ∷ codes "delivered 6 retry noted"
      ∷ codes "delivered 7 query report sent 9..9"
      ∷ codes "delivered 8 query report sent 10..10"
      ∷ codes "delivered 9 report more"
      ∷ codes "delivered 10 report complete"
      ∷ codes "version 3"
      ∷ codes "silo 10.0.0.1:1000@1 leaving seen 3 held 1"
      ∷ codes "held 10.0.0.1:1000@1!1 user/a#1 firm"
      ∷ codes "silo 10.0.0.2:1000@1 active seen 3 held 0"
      ∷ codes "range 0+4294967296 10.0.0.2:1000@1 settled entries 1"
      ∷ []);
  status = 0;
}

-- a join with 129 places, with none, and with 128
abbrev pub places : Row
places = record {
  script = text_of_lines
      (codes "join 10.0.0.1:1000@1 0 1000 2000 3000 4000 5000 6000 7000 8000 9000 10000 11000 12000 13000 14000 15000 16000 17000 18000 19000 20000 21000 22000 23000 24000 25000 26000 27000 28000 29000 30000 31000 32000 33000 34000 35000 36000 37000 38000 39000 40000 41000 42000 43000 44000 45000 46000 47000 48000 49000 50000 51000 52000 53000 54000 55000 56000 57000 58000 59000 60000 61000 62000 63000 64000 65000 66000 67000 68000 69000 70000 71000 72000 73000 74000 75000 76000 77000 78000 79000 80000 81000 82000 83000 84000 85000 86000 87000 88000 89000 90000 91000 92000 93000 94000 95000 96000 97000 98000 99000 100000 101000 102000 103000 104000 105000 106000 107000 108000 109000 110000 111000 112000 113000 114000 115000 116000 117000 118000 119000 120000 121000 122000 123000 124000 125000 126000 127000 128000"
      ∷ codes "join 10.0.0.1:1000@1"
      ∷ codes "join 10.0.0.1:1000@1 0 1000 2000 3000 4000 5000 6000 7000 8000 9000 10000 11000 12000 13000 14000 15000 16000 17000 18000 19000 20000 21000 22000 23000 24000 25000 26000 27000 28000 29000 30000 31000 32000 33000 34000 35000 36000 37000 38000 39000 40000 41000 42000 43000 44000 45000 46000 47000 48000 49000 50000 51000 52000 53000 54000 55000 56000 57000 58000 59000 60000 61000 62000 63000 64000 65000 66000 67000 68000 69000 70000 71000 72000 73000 74000 75000 76000 77000 78000 79000 80000 81000 82000 83000 84000 85000 86000 87000 88000 89000 90000 91000 92000 93000 94000 95000 96000 97000 98000 99000 100000 101000 102000 103000 104000 105000 106000 107000 108000 109000 110000 111000 112000 113000 114000 115000 116000 117000 118000 119000 120000 121000 122000 123000 124000 125000 126000 127000"
      ∷ []);
  text = text_of_lines
      (codes "refused 402"
      ∷ codes "refused 403"
      ∷ codes "view 1 joined 10.0.0.1:1000@1"
      ∷ []);
  status = 0;
}

-- two policies for one grain
abbrev pub place : Row
place = record {
  script = text_of_lines
      (codes "join 10.0.0.1:1000@1 0"
      ∷ codes "see 10.0.0.1:1000@1 1"
      ∷ codes "settle"
      ∷ codes "join 10.0.0.2:1000@1 2147483648"
      ∷ codes "see 10.0.0.1:1000@1 2"
      ∷ codes "see 10.0.0.2:1000@1 2"
      ∷ codes "settle"
      ∷ codes "place 10.0.0.1:1000@1 hash_based user/q#5"
      ∷ codes "place 10.0.0.1:1000@1 prefer_local user/q#5"
      ∷ []);
  text = text_of_lines
      (codes "view 1 joined 10.0.0.1:1000@1"
      ∷ codes "10.0.0.1:1000@1 sees 1 next sent 1..1"
      ∷ codes "delivered 1 query report sent 2..2"
      ∷ codes "delivered 2 report complete"
      ∷ codes "view 2 joined 10.0.0.2:1000@1"
      ∷ codes "10.0.0.1:1000@1 sees 2 next"
      ∷ codes "10.0.0.2:1000@1 sees 2 next sent 3..3"
      ∷ codes "delivered 3 ask page sent 4..4"
      ∷ codes "delivered 4 page installed sent 5..5"
      ∷ codes "delivered 5 done deleted"
      ∷ codes "place user/q#5 10.0.0.2:1000@1"
      ∷ codes "place user/q#5 10.0.0.1:1000@1"
      ∷ []);
  status = 0;
}
