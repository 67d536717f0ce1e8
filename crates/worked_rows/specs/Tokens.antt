-- A process that was started with a token: the joins of its silo that carry another one, or none, are other processes'.
use Rattle.std.specs.Prelude.{[], ◌∷◌, codes, Some}
use Rattle.texts.specs.Printed.{text_of_lines}
use Rattle.worked_rows.specs.ProcessRow.{ProcessRow}

abbrev pub a_token_carried : ProcessRow
a_token_carried = record {
  silo = codes "10.0.0.1:1000@1";
  token = Some (codes "mine");
  input = text_of_lines
      (codes "joined 1 10.0.0.1:1000@1 0"
      ∷ codes "joined 1 10.0.0.1:1000@1 token=other 0"
      ∷ codes "joined 1 10.0.0.1:1000@1 token=min 0"
      ∷ codes "joined 1 10.0.0.1:1000@1 token=mine2 0"
      ∷ codes "joined 1 10.0.0.1:1000@1 token= 0"
      ∷ codes "joined 7 10.0.0.1:1000@1"
      ∷ codes "wake user/ann#7"
      ∷ codes "show"
      ∷ codes "joined 1 10.0.0.1:1000@1 token=mine 0"
      ∷ codes "joined 1 10.0.0.1:1000@1 token=mine 0"
      ∷ codes "joined 1 10.0.0.1:1000@1 0"
      ∷ codes "joined 2 10.0.0.2:1000@1 2147483648"
      ∷ codes "joined 3 10.0.0.3:1000@1 token=other 1073741824"
      ∷ codes "show"
      ∷ codes "joined 4 10.0.0.1:1000@2 token=next 0"
      ∷ []);
  text = text_of_lines
      (codes "refused 208"
      ∷ codes "refused 208"
      ∷ codes "refused 208"
      ∷ codes "refused 208"
      ∷ codes "refused 208"
      ∷ codes "refused 208"
      ∷ codes "refused 901"
      ∷ codes "version 0"
      ∷ codes "silo 10.0.0.1:1000@1 unknown seen 0 held 0"
      ∷ codes "view 1 joined 10.0.0.1:1000@1"
      ∷ codes "known 1"
      ∷ codes "refused 208"
      ∷ codes "view 2 joined 10.0.0.2:1000@1"
      ∷ codes "view 3 joined 10.0.0.3:1000@1"
      ∷ codes "version 3"
      ∷ codes "silo 10.0.0.1:1000@1 active seen 0 held 0"
      ∷ codes "view 4 joined 10.0.0.1:1000@2 dead 10.0.0.1:1000@1"
      ∷ codes "dead"
      ∷ []);
}
