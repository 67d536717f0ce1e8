-- The log of all rings of a publication. It exists in proofs alone. An entry names a cell of the log's book, which the next entry brings
-- home. So nobody adds an entry without the pen for the last one's cell; and who has that pen, while the cell isn't at home, knows all.
use Rattle.std.specs.Prelude.{◌≡◌, ℕ, true, List, [], ◌∷◌, ◌++◌, map}
use mathlib.Core.List.{IsPrefix}
use Rattle.logbook.specs.Pages.{Book, Cell, cell, Named, Step, View, may_make}
use Rattle.hash_ring.specs.Ring.{RingValue}
use Rattle.published_rings.specs.declared.log_rule.Entry.{Entry}

-- a beginning of a log, and which log it is of
pub record FrontValue : Type 0 where
  pub log : Book
  pub all : List RingValue

abbrev pub rings_of : List Entry → List RingValue
rings_of entries = map (λ entry. entry.ring) entries

-- an entry of nothing
abbrev pub no_entry : Entry
no_entry = record { ring = record { version = 0; points = [] }; cell = 0 }

-- the word of a log
abbrev pub head_of : Book → Named
head_of log = record { tracked = true; key = 0; book = log }

-- ---- The rule.

-- the cell with that key is at home
abbrev pub IsHome : List Cell → ℕ → Type 0
IsHome cells key = (cell cells key).1 ≡ true

-- of each entry that another one follows the cell is at home
abbrev pub AreSpent : List Cell → List Entry → Type 0
AreSpent cells [] = Unit {0}
AreSpent cells (entry ∷ later) = (¬ (later ≡ []) → IsHome cells entry.cell) × AreSpent cells later

-- the word of the log is at home, and 0 only before the first entry
pub record IsKept (cells : List Cell) (entries : List Entry) : Type 0 where
  pub home : IsHome cells 0
  pub begun : (cell cells 0).0 ≡ 0 → entries ≡ []
  pub spent : AreSpent cells entries

-- the last of these entries has that cell
pub record EndsAt (entries : List Entry) (key : ℕ) : Type 0 where
  pub earlier : List Entry
  pub last : Entry
  pub whole : entries ≡ earlier ++ last ∷ []
  pub its : last.cell ≡ key

-- ---- The steps.

-- there is one cell more, with the pen to make its word
abbrev pub Draws : Step Entry → View Entry ℕ → ℕ → View Entry ℕ → Type 0
Draws step before found after = after.1.0.right ≡ may_make

-- there is a first entry, if there was none
abbrev pub Starts : Step Entry → View Entry ℕ → ℕ → View Entry ℕ → Type 0
Starts step before found after = found ≡ 0 → after.0 ≡ step.ask ∷ []

-- there is one entry more than were seen, and none between
abbrev pub Extends : Step Entry → View Entry ℕ → ℕ → View Entry ℕ → Type 0
Extends step before found after = after.0 ≡ before.0 ++ step.ask ∷ []

-- the pen stays, and what ends at its cell is all that was seen
abbrev pub Compares : Step Entry → View Entry ℕ → ℕ → View Entry ℕ → Type 0
Compares step before found after = (after.1.0 ≡ before.1.0) × ((known : List Entry) → IsPrefix known before.0 → EndsAt known before.1.0.key → known ≡ before.0)
