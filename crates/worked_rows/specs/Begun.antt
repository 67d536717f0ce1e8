-- A silo that is told a view in place of all changes up to it, and joins after that.
use Rattle.std.specs.Prelude.{[], ◌∷◌, codes, None}
use Rattle.texts.specs.Printed.{text_of_lines}
use Rattle.worked_rows.specs.ProcessRow.{ProcessRow}

abbrev pub a_view_told : ProcessRow
a_view_told = record {
  silo = codes "10.0.0.3:1000@2";
  token = None;
  input = text_of_lines
      (codes "leaving 0 10.0.0.1:1000@1"
      ∷ codes "view 4611686018427387904"
      ∷ codes "view 0 10.0.0.1:1000@1:active:0"
      ∷ codes "view 5 10.0.0.1:1000@1:active:0 10.0.0.1:1000@2:dead"
      ∷ codes "view 5 10.0.0.1:1000@1:active"
      ∷ codes "view 5 10.0.0.1:1000@1:dead:7"
      ∷ codes "view 5 10.0.0.3:1000@2:dead"
      ∷ codes "view 5 10.0.0.3:1000@3:dead"
      ∷ codes "view 5 10.0.0.1:1000@1:active:0 10.0.0.2:1000@4:dead 10.0.0.3:1000@1:leaving:9"
      ∷ codes "view 5 10.0.0.1:1000@1:active:0 10.0.0.2:1000@4:dead 10.0.0.3:1000@1:leaving:9"
      ∷ codes "show"
      ∷ codes "joined 5 10.0.0.1:1000@1 0"
      ∷ codes "dead 1 10.0.0.2:1000@4"
      ∷ codes "leaving 0 10.0.0.3:1000@1"
      ∷ codes "dead 7 10.0.0.1:1000@1"
      ∷ codes "joined 6 10.0.0.2:1000@4 7"
      ∷ codes "joined 6 10.0.0.2:1000@5"
      ∷ codes "dead 6 10.0.0.2:1000@4"
      ∷ codes "leaving 6 10.0.0.3:1000@1"
      ∷ codes "joined 6 10.0.0.3:1000@2 2147483648"
      ∷ codes "joined 6 10.0.0.3:1000@2 2147483648"
      ∷ codes "joined 6 10.0.0.3:1000@2 7"
      ∷ codes "see 5"
      ∷ codes "see 6"
      ∷ codes "joined 7 10.0.0.2:1000@5 7"
      ∷ codes "show"
      ∷ []);
  text = text_of_lines
      (codes "refused 207"
      ∷ codes "refused 210"
      ∷ codes "refused 210"
      ∷ codes "refused 210"
      ∷ codes "refused 403"
      ∷ codes "refused 402"
      ∷ codes "refused 201"
      ∷ codes "refused 201"
      ∷ codes "view 5 begins"
      ∷ codes "refused 211"
      ∷ codes "version 5"
      ∷ codes "silo 10.0.0.3:1000@2 unknown seen 0 held 0"
      ∷ codes "refused 212"
      ∷ codes "refused 212"
      ∷ codes "refused 207"
      ∷ codes "refused 206"
      ∷ codes "refused 201"
      ∷ codes "refused 403"
      ∷ codes "refused 204"
      ∷ codes "refused 203"
      ∷ codes "view 6 joined 10.0.0.3:1000@2 dead 10.0.0.3:1000@1"
      ∷ codes "known 6"
      ∷ codes "refused 207"
      ∷ codes "refused 904"
      ∷ codes "10.0.0.3:1000@2 sees 6 next"
      ∷ codes "letter 10.0.0.3:1000@2 10.0.0.1:1000@1 6 ask 2147483648+2147483648 0"
      ∷ codes "view 7 joined 10.0.0.2:1000@5"
      ∷ codes "version 7"
      ∷ codes "silo 10.0.0.3:1000@2 active seen 6 held 0"
      ∷ codes "range 2147483648+2147483648 awaiting 10.0.0.1:1000@1"
      ∷ []);
}
