-- Changes and commands that are refused: the lines behind them are answered as if they weren't there.
use Rattle.std.specs.Prelude.{[], ◌∷◌, codes, None}
use Rattle.texts.specs.Printed.{text_of_lines}
use Rattle.worked_rows.specs.ProcessRow.{ProcessRow}

abbrev pub refused_changes : ProcessRow
refused_changes = record {
  silo = codes "10.0.0.1:1000@1";
  token = None;
  input = text_of_lines
      (codes "joined 1 10.0.0.1:1000@1 0"
      ∷ codes "joined 1 10.0.0.1:1000@1 5"
      ∷ codes "dead 1 10.0.0.1:1000@1"
      ∷ codes "leaving 0 10.0.0.1:1000@1"
      ∷ codes "joined 3 10.0.0.2:1000@1 7"
      ∷ codes "joined 2 10.0.0.1:1000@1 0"
      ∷ codes "joined 2 10.0.0.2:1000@1"
      ∷ codes "leaving 2 10.0.0.2:1000@1"
      ∷ codes "dead 2 10.0.0.2:1000@1"
      ∷ codes "close user/ann#7"
      ∷ codes "offer user/ann#7 10.0.0.2:1000@1"
      ∷ codes "wake user/ann#7"
      ∷ codes "joined 2 10.0.0.2:1000@1 7"
      ∷ codes "dead 3 10.0.0.2:1000@1"
      ∷ codes "dead 3 10.0.0.2:1000@1"
      ∷ codes "dead 4 10.0.0.2:1000@1"
      ∷ codes "leaving 4 10.0.0.2:1000@1"
      ∷ codes "leaving 4 10.0.0.1:1000@1"
      ∷ codes "leaving 5 10.0.0.1:1000@1"
      ∷ codes "show"
      ∷ []);
  text = text_of_lines
      (codes "view 1 joined 10.0.0.1:1000@1"
      ∷ codes "refused 207"
      ∷ codes "refused 207"
      ∷ codes "refused 207"
      ∷ codes "refused 206"
      ∷ codes "refused 201"
      ∷ codes "refused 403"
      ∷ codes "refused 202"
      ∷ codes "refused 202"
      ∷ codes "refused 802"
      ∷ codes "refused 802"
      ∷ codes "refused 804"
      ∷ codes "view 2 joined 10.0.0.2:1000@1"
      ∷ codes "view 3 dead 10.0.0.2:1000@1"
      ∷ codes "known 3"
      ∷ codes "refused 204"
      ∷ codes "refused 203"
      ∷ codes "view 4 leaving 10.0.0.1:1000@1"
      ∷ codes "refused 203"
      ∷ codes "version 4"
      ∷ codes "silo 10.0.0.1:1000@1 leaving seen 0 held 0"
      ∷ []);
}
