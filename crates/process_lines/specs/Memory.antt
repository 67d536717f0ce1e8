-- Lines that take memory to read.
use Rattle.std.specs.Prelude.{⊤, ℕ, ◌∷◌, Option, Some, Result, Ok, Err}
use Rattle.process_rules.specs.Lists.{TellsList}
use Rattle.process_rules.specs.ReadLine.{Asked, Joined, Begin, Receive}

-- what is asked for has a list that isn't empty: it is a join with places, a view with silos, or a letter that tells one
abbrev pub HasList : Asked → Type 0
HasList (Joined version silo token (place ∷ places)) = ⊤
HasList (Begin version (one ∷ rows)) = ⊤
HasList (Receive letter) = TellsList letter.body
HasList other = ⊥

-- the words were read, and what they ask for has one
abbrev pub WordsNeedMemory : Result Asked ℕ → Type 0
WordsNeedMemory (Ok asked) = HasList asked
WordsNeedMemory (Err fault) = ⊥

-- the line was read, and what it asks for has one
abbrev pub LineNeedsMemory : Result (Option Asked) ℕ → Type 0
LineNeedsMemory (Ok (Some asked)) = HasList asked
LineNeedsMemory line = ⊥
