-- Worked rows: ranges that are handed over.
use Rattle.std.specs.Prelude.{[], ◌∷◌, codes}
use Rattle.texts.specs.Printed.{text_of_lines}
use Rattle.worked_rows.specs.Row.{Row}

-- a second silo joins and is handed half of the circle
abbrev pub opening_s2 : Row
opening_s2 = record {
  script = text_of_lines
      (codes "join 10.0.0.1:1000@1 0"
      ∷ codes "see 10.0.0.1:1000@1 1"
      ∷ codes "settle"
      ∷ codes "join 10.0.0.2:1000@1 2147483648"
      ∷ codes "see 10.0.0.1:1000@1 2"
      ∷ codes "see 10.0.0.2:1000@1 2"
      ∷ codes "settle"
      ∷ codes "owner 2147483647"
      ∷ codes "owner 2147483648"
      ∷ []);
  text = text_of_lines
      (codes "view 1 joined 10.0.0.1:1000@1"
      ∷ codes "10.0.0.1:1000@1 sees 1 next sent 1..1"
      ∷ codes "delivered 1 query report sent 2..2"
      ∷ codes "delivered 2 report complete"
      ∷ codes "view 2 joined 10.0.0.2:1000@1"
      ∷ codes "10.0.0.1:1000@1 sees 2 next"
      ∷ codes "10.0.0.2:1000@1 sees 2 next sent 3..3"
      ∷ codes "delivered 3 ask page sent 4..4"
      ∷ codes "delivered 4 page installed sent 5..5"
      ∷ codes "delivered 5 done deleted"
      ∷ codes "owner 2147483647 10.0.0.1:1000@1 0"
      ∷ codes "owner 2147483648 10.0.0.2:1000@1 0"
      ∷ []);
  status = 0;
}

-- a silo with two places gathers from two owners
abbrev pub two_asks : Row
two_asks = record {
  script = text_of_lines
      (codes "join 10.0.0.1:1000@1 0"
      ∷ codes "see 10.0.0.1:1000@1 1"
      ∷ codes "settle"
      ∷ codes "join 10.0.0.2:1000@1 2147483648"
      ∷ codes "see 10.0.0.1:1000@1 2"
      ∷ codes "see 10.0.0.2:1000@1 2"
      ∷ codes "settle"
      ∷ codes "join 10.0.0.3:1000@1 1073741824 3221225472"
      ∷ codes "sync"
      ∷ codes "settle"
      ∷ codes "owner 1073741823"
      ∷ codes "owner 4294967295"
      ∷ []);
  text = text_of_lines
      (codes "view 1 joined 10.0.0.1:1000@1"
      ∷ codes "10.0.0.1:1000@1 sees 1 next sent 1..1"
      ∷ codes "delivered 1 query report sent 2..2"
      ∷ codes "delivered 2 report complete"
      ∷ codes "view 2 joined 10.0.0.2:1000@1"
      ∷ codes "10.0.0.1:1000@1 sees 2 next"
      ∷ codes "10.0.0.2:1000@1 sees 2 next sent 3..3"
      ∷ codes "delivered 3 ask page sent 4..4"
      ∷ codes "delivered 4 page installed sent 5..5"
      ∷ codes "delivered 5 done deleted"
      ∷ codes "view 3 joined 10.0.0.3:1000@1"
      ∷ codes "10.0.0.1:1000@1 sees 3 next"
      ∷ codes "10.0.0.2:1000@1 sees 3 next"
      ∷ codes "10.0.0.3:1000@1 sees 3 next sent 6..7"
      ∷ codes "delivered 6 ask page sent 8..8"
      ∷ codes "delivered 7 ask page sent 9..9"
      ∷ codes "delivered 8 page installed sent 10..10"
      ∷ codes "delivered 9 page installed sent 11..11"
      ∷ codes "delivered 10 done deleted"
      ∷ codes "delivered 11 done deleted"
      ∷ codes "owner 1073741823 10.0.0.1:1000@1 0"
      ∷ codes "owner 4294967295 10.0.0.3:1000@1 1"
      ∷ []);
  status = 0;
}

-- a find comes before the snapshot and is sent again by a nudge
abbrev pub find_meets_transfer : Row
find_meets_transfer = record {
  script = text_of_lines
      (codes "join 10.0.0.1:1000@1 0"
      ∷ codes "see 10.0.0.1:1000@1 1"
      ∷ codes "settle"
      ∷ codes "wake 10.0.0.1:1000@1 user/bob#3000000000"
      ∷ codes "settle"
      ∷ codes "join 10.0.0.2:1000@1 2147483648"
      ∷ codes "see 10.0.0.1:1000@1 2"
      ∷ codes "see 10.0.0.2:1000@1 2"
      ∷ codes "find 10.0.0.1:1000@1 user/bob#3000000000"
      ∷ codes "deliver 6"
      ∷ codes "settle"
      ∷ codes "nudge 10.0.0.1:1000@1"
      ∷ codes "settle"
      ∷ codes "find 10.0.0.1:1000@1 user/bob#3000000000"
      ∷ []);
  text = text_of_lines
      (codes "view 1 joined 10.0.0.1:1000@1"
      ∷ codes "10.0.0.1:1000@1 sees 1 next sent 1..1"
      ∷ codes "delivered 1 query report sent 2..2"
      ∷ codes "delivered 2 report complete"
      ∷ codes "started 10.0.0.1:1000@1!1 user/bob#3000000000 sent 3..3"
      ∷ codes "delivered 3 register registered sent 4..4"
      ∷ codes "delivered 4 registered firm"
      ∷ codes "view 2 joined 10.0.0.2:1000@1"
      ∷ codes "10.0.0.1:1000@1 sees 2 next"
      ∷ codes "10.0.0.2:1000@1 sees 2 next sent 5..5"
      ∷ codes "finding user/bob#3000000000 sent 6..6"
      ∷ codes "delivered 6 find retry 602 sent 7..7"
      ∷ codes "delivered 5 ask page sent 8..8"
      ∷ codes "delivered 7 retry noted"
      ∷ codes "delivered 8 page installed sent 9..9"
      ∷ codes "delivered 9 done deleted"
      ∷ codes "nudged 10.0.0.1:1000@1 sent 10..10"
      ∷ codes "delivered 10 find found sent 11..11"
      ∷ codes "delivered 11 found learnt"
      ∷ codes "cached 10.0.0.1:1000@1!1 user/bob#3000000000"
      ∷ []);
  status = 0;
}

-- a silo leaves: its range goes to the other one, and it starts nothing any more
abbrev pub leave : Row
leave = record {
  script = text_of_lines
      (codes "join 10.0.0.1:1000@1 0"
      ∷ codes "see 10.0.0.1:1000@1 1"
      ∷ codes "settle"
      ∷ codes "join 10.0.0.2:1000@1 2147483648"
      ∷ codes "see 10.0.0.1:1000@1 2"
      ∷ codes "see 10.0.0.2:1000@1 2"
      ∷ codes "settle"
      ∷ codes "wake 10.0.0.2:1000@1 user/l#7"
      ∷ codes "settle"
      ∷ codes "leave 10.0.0.2:1000@1"
      ∷ codes "sync"
      ∷ codes "settle"
      ∷ codes "wake 10.0.0.2:1000@1 user/m#8"
      ∷ []);
  text = text_of_lines
      (codes "view 1 joined 10.0.0.1:1000@1"
      ∷ codes "10.0.0.1:1000@1 sees 1 next sent 1..1"
      ∷ codes "delivered 1 query report sent 2..2"
      ∷ codes "delivered 2 report complete"
      ∷ codes "view 2 joined 10.0.0.2:1000@1"
      ∷ codes "10.0.0.1:1000@1 sees 2 next"
      ∷ codes "10.0.0.2:1000@1 sees 2 next sent 3..3"
      ∷ codes "delivered 3 ask page sent 4..4"
      ∷ codes "delivered 4 page installed sent 5..5"
      ∷ codes "delivered 5 done deleted"
      ∷ codes "started 10.0.0.2:1000@1!1 user/l#7 sent 6..6"
      ∷ codes "delivered 6 register registered sent 7..7"
      ∷ codes "delivered 7 registered firm"
      ∷ codes "view 3 leaving 10.0.0.2:1000@1"
      ∷ codes "10.0.0.1:1000@1 sees 3 next sent 8..8"
      ∷ codes "10.0.0.2:1000@1 sees 3 next"
      ∷ codes "delivered 8 ask page sent 9..9"
      ∷ codes "delivered 9 page installed sent 10..10"
      ∷ codes "delivered 10 done deleted"
      ∷ codes "refused 804"
      ∷ []);
  status = 0;
}

-- a letter is lost, the mail is printed, and a nudge sends the request again
abbrev pub lost_letter : Row
lost_letter = record {
  script = text_of_lines
      (codes "join 10.0.0.1:1000@1 0"
      ∷ codes "see 10.0.0.1:1000@1 1"
      ∷ codes "settle"
      ∷ codes "join 10.0.0.2:1000@1 2147483648"
      ∷ codes "see 10.0.0.1:1000@1 2"
      ∷ codes "see 10.0.0.2:1000@1 2"
      ∷ codes "settle"
      ∷ codes "wake 10.0.0.1:1000@1 user/n#3000000000"
      ∷ codes "lose 6"
      ∷ codes "mail"
      ∷ codes "nudge 10.0.0.1:1000@1"
      ∷ codes "settle"
      ∷ codes "deliver 6"
      ∷ []);
  text = text_of_lines
      (codes "view 1 joined 10.0.0.1:1000@1"
      ∷ codes "10.0.0.1:1000@1 sees 1 next sent 1..1"
      ∷ codes "delivered 1 query report sent 2..2"
      ∷ codes "delivered 2 report complete"
      ∷ codes "view 2 joined 10.0.0.2:1000@1"
      ∷ codes "10.0.0.1:1000@1 sees 2 next"
      ∷ codes "10.0.0.2:1000@1 sees 2 next sent 3..3"
      ∷ codes "delivered 3 ask page sent 4..4"
      ∷ codes "delivered 4 page installed sent 5..5"
      ∷ codes "delivered 5 done deleted"
      ∷ codes "started 10.0.0.1:1000@1!1 user/n#3000000000 sent 6..6"
      ∷ codes "lost 6"
      ∷ codes "1 query 10.0.0.1:1000@1 10.0.0.1:1000@1 1"
      ∷ codes "2 report 10.0.0.1:1000@1 10.0.0.1:1000@1 1"
      ∷ codes "3 ask 10.0.0.2:1000@1 10.0.0.1:1000@1 2"
      ∷ codes "4 page 10.0.0.1:1000@1 10.0.0.2:1000@1 2"
      ∷ codes "5 done 10.0.0.2:1000@1 10.0.0.1:1000@1 2"
      ∷ codes "nudged 10.0.0.1:1000@1 sent 7..7"
      ∷ codes "delivered 7 register registered sent 8..8"
      ∷ codes "delivered 8 registered firm"
      ∷ codes "refused 905"
      ∷ []);
  status = 0;
}

-- the ask of a range is lost, and a nudge of the ranges sends it again, but no request; a nudge of the grain sends that
abbrev pub asked_again : Row
asked_again = record {
  script = text_of_lines
      (codes "join 10.0.0.1:1000@1 0"
      ∷ codes "see 10.0.0.1:1000@1 1"
      ∷ codes "settle"
      ∷ codes "join 10.0.0.2:1000@1 2147483648"
      ∷ codes "see 10.0.0.1:1000@1 2"
      ∷ codes "see 10.0.0.2:1000@1 2"
      ∷ codes "lose 3"
      ∷ codes "wake 10.0.0.2:1000@1 user/bob#3000000000"
      ∷ codes "nudge 10.0.0.2:1000@1 ranges"
      ∷ codes "settle"
      ∷ codes "nudge 10.0.0.2:1000@1 ranges"
      ∷ codes "nudge 10.0.0.2:1000@1 user/bob#3000000000"
      ∷ codes "settle"
      ∷ []);
  text = text_of_lines
      (codes "view 1 joined 10.0.0.1:1000@1"
      ∷ codes "10.0.0.1:1000@1 sees 1 next sent 1..1"
      ∷ codes "delivered 1 query report sent 2..2"
      ∷ codes "delivered 2 report complete"
      ∷ codes "view 2 joined 10.0.0.2:1000@1"
      ∷ codes "10.0.0.1:1000@1 sees 2 next"
      ∷ codes "10.0.0.2:1000@1 sees 2 next sent 3..3"
      ∷ codes "lost 3"
      ∷ codes "started 10.0.0.2:1000@1!1 user/bob#3000000000 sent 4..4"
      ∷ codes "nudged 10.0.0.2:1000@1 sent 5..5"
      ∷ codes "delivered 4 register retry 602 sent 6..6"
      ∷ codes "delivered 5 ask page sent 7..7"
      ∷ codes "delivered 6 retry noted"
      ∷ codes "delivered 7 page installed sent 8..8"
      ∷ codes "delivered 8 done deleted"
      ∷ codes "nudged 10.0.0.2:1000@1"
      ∷ codes "nudged 10.0.0.2:1000@1 sent 9..9"
      ∷ codes "delivered 9 register registered sent 10..10"
      ∷ codes "delivered 10 registered firm"
      ∷ []);
  status = 0;
}
