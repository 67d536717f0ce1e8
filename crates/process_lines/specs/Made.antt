-- What a letter is made of, once its words are read.
use Rattle.std.specs.Prelude.{ℕ, List, Option, Some, Result, Ok}
use Rattle.silo_address.specs.Grain.{Grain}
use Rattle.silo_address.specs.declared.Entry.{Entry}
use Rattle.ring_range.specs.Range.{Range}
use Rattle.directory_rules.specs.State.{Letter, Body}
use Rattle.script_rules.specs.Script.{grain_word, ◌>>=◌}
use Rattle.process_rules.specs.ReadLetter.{Head}

abbrev pub OfAnEntry : Type 0
OfAnEntry = Head → ℕ → Entry → Letter

abbrev pub OfARange : Type 0
OfARange = Range → Body

abbrev pub OfRanges : Type 0
OfRanges = List Range → Body

-- the grain that the word names, as that behind which a report tells
abbrev pub after_in : List ℕ → Result (Option Grain) ℕ
after_in word = do
  grain ← grain_word word
  Ok (Some grain)
