-- A silo whose range's snapshot is gone, and which recovers it.
use Rattle.std.specs.Prelude.{[], ◌∷◌, codes, None}
use Rattle.texts.specs.Printed.{text_of_lines}
use Rattle.worked_rows.specs.ProcessRow.{ProcessRow}

abbrev pub a_snapshot_missing : ProcessRow
a_snapshot_missing = record {
  silo = codes "10.0.0.2:1000@1";
  token = None;
  input = text_of_lines
      (codes "joined 1 10.0.0.1:1000@1 0"
      ∷ codes "joined 2 10.0.0.2:1000@1 2147483648"
      ∷ codes "see 2"
      ∷ codes "letter 10.0.0.1:1000@1 10.0.0.2:1000@1 2 behind 2147483648+2147483648"
      ∷ codes "nudge"
      ∷ codes "letter 10.0.0.1:1000@1 10.0.0.2:1000@1 2 missing 2147483648+2147483648"
      ∷ codes "letter 10.0.0.1:1000@1 10.0.0.2:1000@1 2 report 2147483648+2147483648 last user/eve#2147483650 10.0.0.1:1000@1!1"
      ∷ codes "letter 10.0.0.2:1000@1 10.0.0.2:1000@1 2 query 2147483648+2147483648"
      ∷ codes "letter 10.0.0.2:1000@1 10.0.0.2:1000@1 2 report 2147483648+2147483648 last"
      ∷ codes "show"
      ∷ codes "letter 10.0.0.1:1000@1 10.0.0.2:1000@1 2 deregister 2 user/eve#2147483650 10.0.0.1:1000@1!1"
      ∷ codes "letter 10.0.0.1:1000@1 10.0.0.2:1000@1 2 deregister 2 user/eve#2147483650 10.0.0.1:1000@1!1"
      ∷ []);
  text = text_of_lines
      (codes "view 1 joined 10.0.0.1:1000@1"
      ∷ codes "view 2 joined 10.0.0.2:1000@1"
      ∷ codes "10.0.0.2:1000@1 sees 2 next"
      ∷ codes "letter 10.0.0.2:1000@1 10.0.0.1:1000@1 2 ask 2147483648+2147483648 0"
      ∷ codes "delivered behind noted"
      ∷ codes "nudged 10.0.0.2:1000@1"
      ∷ codes "letter 10.0.0.2:1000@1 10.0.0.1:1000@1 2 ask 2147483648+2147483648 0"
      ∷ codes "delivered missing recovering"
      ∷ codes "letter 10.0.0.2:1000@1 10.0.0.1:1000@1 2 query 2147483648+2147483648"
      ∷ codes "letter 10.0.0.2:1000@1 10.0.0.2:1000@1 2 query 2147483648+2147483648"
      ∷ codes "delivered report more"
      ∷ codes "delivered query report"
      ∷ codes "letter 10.0.0.2:1000@1 10.0.0.2:1000@1 2 report 2147483648+2147483648 last"
      ∷ codes "delivered report complete"
      ∷ codes "version 2"
      ∷ codes "silo 10.0.0.2:1000@1 active seen 2 held 0"
      ∷ codes "range 2147483648+2147483648 settled entries 1"
      ∷ codes "delivered deregister removed"
      ∷ codes "letter 10.0.0.2:1000@1 10.0.0.1:1000@1 2 removed 2"
      ∷ codes "delivered deregister retry 603"
      ∷ codes "letter 10.0.0.2:1000@1 10.0.0.1:1000@1 2 retry 2 603 2"
      ∷ []);
}
