-- Ends of lines, bytes that are no text, and an input that breaks off.
use Rattle.std.specs.Prelude.{[], ◌∷◌, ◌++◌, codes, None}
use Rattle.texts.specs.Printed.{text_of_lines}
use Rattle.worked_rows.specs.ProcessRow.{ProcessRow}

-- a carriage return in front of a line feed is dropped, another one is no text, nor is a tab
abbrev pub ends_of_lines : ProcessRow
ends_of_lines = record {
  silo = codes "10.0.0.1:1000@1";
  token = None;
  input = text_of_lines
      ((codes "ping one" ++ 13 ∷ [])
      ∷ (codes "ping two" ++ 13 ∷ 13 ∷ [])
      ∷ (codes "ping" ++ 9 ∷ codes "three")
      ∷ []);
  text = text_of_lines
      (codes "pong one"
      ∷ codes "fault 925"
      ∷ codes "fault 925"
      ∷ []);
}

-- what no line feed ended may have been cut, and is never taken
abbrev pub broken_off : ProcessRow
broken_off = record {
  silo = codes "10.0.0.1:1000@1";
  token = None;
  input = text_of_lines (codes "ping one" ∷ []) ++ codes "ping two";
  text = text_of_lines (codes "pong one" ∷ codes "fault 931" ∷ []);
}

-- without a byte nothing is written
abbrev pub no_bytes : ProcessRow
no_bytes = record { silo = codes "10.0.0.1:1000@1"; token = None; input = []; text = [] }
