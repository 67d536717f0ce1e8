-- Worked rows: several ranges that recover at once.
use Rattle.std.specs.Prelude.{[], ◌∷◌, codes}
use Rattle.texts.specs.Printed.{text_of_lines}
use Rattle.worked_rows.specs.Row.{Row}

-- A silo skips the version of its join, so all of its ranges recover: it asks each silo for them by one survey. One silo has an activation in
-- one of them; it hasn't seen the version when the survey comes first, and has passed it when that comes last.
abbrev pub several_ranges : Row
several_ranges = record {
  script = text_of_lines
      (codes "join 10.0.0.1:1000@1 0"
      ∷ codes "see 10.0.0.1:1000@1 1"
      ∷ codes "settle"
      ∷ codes "wake 10.0.0.1:1000@1 user/a#1500"
      ∷ codes "settle"
      ∷ codes "join 10.0.0.2:1000@1 1000 3000 5000"
      ∷ codes "join 10.0.0.3:1000@1 2000"
      ∷ codes "see 10.0.0.2:1000@1 3"
      ∷ codes "deliver 5"
      ∷ codes "see 10.0.0.1:1000@1 3"
      ∷ codes "see 10.0.0.3:1000@1 3"
      ∷ codes "deliver 5"
      ∷ codes "settle"
      ∷ codes "deliver 13"
      ∷ codes "show"
      ∷ codes "leave 10.0.0.3:1000@1"
      ∷ codes "see 10.0.0.1:1000@1 4"
      ∷ codes "deliver 5"
      ∷ []);
  text = text_of_lines
      (codes "view 1 joined 10.0.0.1:1000@1"
      ∷ codes "10.0.0.1:1000@1 sees 1 next sent 1..1"
      ∷ codes "delivered 1 query report sent 2..2"
      ∷ codes "delivered 2 report complete"
      ∷ codes "started 10.0.0.1:1000@1!1 user/a#1500 sent 3..3"
      ∷ codes "delivered 3 register registered sent 4..4"
      ∷ codes "delivered 4 registered firm"
      ∷ codes "view 2 joined 10.0.0.2:1000@1"
      ∷ codes "view 3 joined 10.0.0.3:1000@1"
      ∷ codes "10.0.0.2:1000@1 sees 3 skip sent 5..7"
      ∷ codes "delivered 5 survey behind sent 8..8"
      ∷ codes "10.0.0.1:1000@1 sees 3 skip"
      ∷ codes "10.0.0.3:1000@1 sees 3 next sent 9..9"
      ∷ codes "delivered 5 survey report sent 10..11"
      ∷ codes "delivered 6 survey report sent 12..12"
      ∷ codes "delivered 7 survey report sent 13..13"
      ∷ codes "delivered 8 behind noted"
      ∷ codes "delivered 9 ask missing sent 14..14"
      ∷ codes "delivered 10 empty more"
      ∷ codes "delivered 11 report more"
      ∷ codes "delivered 12 empty more"
      ∷ codes "delivered 13 empty complete"
      ∷ codes "delivered 14 missing recovering sent 15..17"
      ∷ codes "delivered 15 query report sent 18..18"
      ∷ codes "delivered 16 query report sent 19..19"
      ∷ codes "delivered 17 query report sent 20..20"
      ∷ codes "delivered 18 report more"
      ∷ codes "delivered 19 report more"
      ∷ codes "delivered 20 report complete"
      ∷ codes "delivered 13 empty ignored"
      ∷ codes "version 3"
      ∷ codes "silo 10.0.0.1:1000@1 active seen 3 held 1"
      ∷ codes "held 10.0.0.1:1000@1!1 user/a#1500 firm"
      ∷ codes "silo 10.0.0.2:1000@1 active seen 3 held 0"
      ∷ codes "silo 10.0.0.3:1000@1 active seen 3 held 0"
      ∷ codes "range 0+1000 10.0.0.1:1000@1 settled entries 0"
      ∷ codes "range 1000+1000 10.0.0.2:1000@1 settled entries 1"
      ∷ codes "range 2000+1000 10.0.0.3:1000@1 settled entries 0"
      ∷ codes "range 3000+2000 10.0.0.2:1000@1 settled entries 0"
      ∷ codes "range 5000+4294962296 10.0.0.2:1000@1 settled entries 0"
      ∷ codes "view 4 leaving 10.0.0.3:1000@1"
      ∷ codes "10.0.0.1:1000@1 sees 4 next"
      ∷ codes "delivered 5 survey ahead sent 21..21"
      ∷ []);
  status = 0;
}
