-- Worked rows: the first scripts: one silo, or none.
use Rattle.std.specs.Prelude.{[], ◌∷◌, codes}
use Rattle.texts.specs.Printed.{text_of_lines}
use Rattle.worked_rows.specs.Row.{Row}

-- one silo joins, settles, enters an activation and finds it
abbrev pub one_silo : Row
one_silo = record {
  script = text_of_lines
      (codes "join 10.0.0.1:1000@1 0"
      ∷ codes "see 10.0.0.1:1000@1 1"
      ∷ codes "settle"
      ∷ codes "wake 10.0.0.1:1000@1 user/ann#7"
      ∷ codes "settle"
      ∷ codes "find 10.0.0.1:1000@1 user/ann#7"
      ∷ codes "settle"
      ∷ codes "show"
      ∷ []);
  text = text_of_lines
      (codes "view 1 joined 10.0.0.1:1000@1"
      ∷ codes "10.0.0.1:1000@1 sees 1 next sent 1..1"
      ∷ codes "delivered 1 query report sent 2..2"
      ∷ codes "delivered 2 report complete"
      ∷ codes "started 10.0.0.1:1000@1!1 user/ann#7 sent 3..3"
      ∷ codes "delivered 3 register registered sent 4..4"
      ∷ codes "delivered 4 registered firm"
      ∷ codes "finding user/ann#7 sent 5..5"
      ∷ codes "delivered 5 find found sent 6..6"
      ∷ codes "delivered 6 found learnt"
      ∷ codes "version 1"
      ∷ codes "silo 10.0.0.1:1000@1 active seen 1 held 1"
      ∷ codes "held 10.0.0.1:1000@1!1 user/ann#7 firm"
      ∷ codes "range 0+4294967296 10.0.0.1:1000@1 settled entries 1"
      ∷ []);
  status = 0;
}

-- nothing is played
abbrev pub no_bytes : Row
no_bytes = record {
  script = [];
  text = [];
  status = 0;
}

-- a directory without a silo
abbrev pub show_alone : Row
show_alone = record {
  script = text_of_lines (codes "show" ∷ []);
  text = text_of_lines
      (codes "version 0"
      ∷ codes "no owner"
      ∷ []);
  status = 0;
}

-- where one silo may join, a second one is refused; a request before the piece is settled is answered by 602
abbrev pub first_run_only : Row
first_run_only = record {
  script = text_of_lines
      (codes "join 10.0.0.1:1000@1 0"
      ∷ codes "join 10.0.0.2:1000@1 5"
      ∷ codes "wake 10.0.0.1:1000@1 user/a#1"
      ∷ codes "see 10.0.0.1:1000@1 1"
      ∷ codes "wake 10.0.0.1:1000@1 user/a#1"
      ∷ codes "settle"
      ∷ codes "show"
      ∷ []);
  text = text_of_lines
      (codes "view 1 joined 10.0.0.1:1000@1"
      ∷ codes "refused 205"
      ∷ codes "refused 804"
      ∷ codes "10.0.0.1:1000@1 sees 1 next sent 1..1"
      ∷ codes "started 10.0.0.1:1000@1!1 user/a#1 sent 2..2"
      ∷ codes "delivered 1 query report sent 3..3"
      ∷ codes "delivered 2 register retry 602 sent 4..4"
      ∷ codes "delivered 3 report complete"
      ∷ codes "delivered 4 retry noted"
      ∷ codes "version 1"
      ∷ codes "silo 10.0.0.1:1000@1 active seen 1 held 1"
      ∷ codes "held 10.0.0.1:1000@1!1 user/a#1 asking"
      ∷ codes "range 0+4294967296 10.0.0.1:1000@1 settled entries 0"
      ∷ []);
  status = 0;
}
