-- Letters whose length is bounded, since they have no list of entries or of ranges, and those that tell one.
use Rattle.std.specs.Prelude.{⊤, ◌≢◌, ℕ, List, [], Result, Ok, Err}
use Rattle.ring_range.specs.Range.{Range}
use Rattle.directory_rules.specs.State.{Letter}
use Rattle.directory_rules.specs.declared.letter_kind.LetterKind.{LetterKind}
use Rattle.directory_rules.specs.declared.letter_kind.LetterKind.TheVariants.{Page, Report, Survey, Empty}
use Rattle.process_rules.specs.Lists.{TellsList}
use Rattle.process_lines.specs.Made.{OfRanges}

abbrev pub IsShort : LetterKind → Type 0
IsShort Page = ⊥
IsShort Report = ⊥
IsShort Survey = ⊥
IsShort Empty = ⊥
IsShort other = ⊤

-- entries or ranges were read, at least one
abbrev pub AreSome : {A : Type 0} → Result (List A) ℕ → Type 0
AreSome (Ok items) = items ≢ []
AreSome (Err fault) = ⊥

-- a letter was read, and it tells at least one
abbrev pub LetterTellsList : Result Letter ℕ → Type 0
LetterTellsList (Ok letter) = TellsList letter.body
LetterTellsList (Err fault) = ⊥

-- what is said of ranges tells them, where there are some
abbrev pub TellsThem : OfRanges → Type 0
TellsThem of = (ranges : List Range) → ranges ≢ [] → TellsList (of ranges)
