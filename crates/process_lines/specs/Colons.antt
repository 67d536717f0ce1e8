-- A word that lists a silo, cut at its colons.
use Rattle.std.specs.Prelude.{◌≡◌, ⊤, ℕ, List, [], ◌∷◌, ◌++◌, Option, Some, None, Result, Ok, Err}
use Rattle.std.specs.Borrow.{Bor}
use Rattle.texts.specs.Words.{pieces_at}
use Rattle.script_rules.specs.Script.{hash_word, ◌>>=◌}
use Rattle.process_rules.specs.ReadLine as rule
use Rattle.process_lines.specs.declared.fault.LineFault.{LineFault}
use Rattle.process_lines.specs.declared.listed.Pieces.{Pieces}
use Rattle.process_lines.specs.FaultNumbers.{line_fault_number}

-- whether what is read has a fault, and which; without its value
abbrev pub checked : {A : Type 0} → Result A ℕ → Result ⊤ ℕ
checked (Ok value) = Ok tt
checked (Err fault) = Err fault

abbrev pub no_value : {A : Type 0} → A → ⊤
no_value value = tt

-- the words of the places, where there are any
abbrev pub places_of : Option (Bor (List ℕ)) → List (List ℕ)
places_of None = []
places_of (Some text) = pieces_at rule.comma text.now

-- these places, with the one that the word names
abbrev pub with_place : List ℕ → (word : List ℕ) → Result (List ℕ) ℕ
with_place places word = do
  place ← hash_word word
  Ok (places ++ place ∷ [])

-- the word lists the silo that its pieces list, or has their fault
abbrev pub Cuts : Result Pieces LineFault → List ℕ → Type 0
Cuts (Ok pieces) word = rule.listed_word word ≡ rule.listed_as (Some pieces.status) pieces.silo.now (places_of pieces.places)
Cuts (Err fault) word = rule.listed_word word ≡ Err (line_fault_number fault)

-- what stands behind a silo lists it so, whichever it is
abbrev pub CutsRest : Result (Bor (List ℕ) × Option (Bor (List ℕ))) LineFault → List ℕ → Type 0
CutsRest (Ok parts) text = (host port : List ℕ) → rule.listed_of (host ∷ port ∷ pieces_at rule.colon text) ≡ rule.listed_as (rule.status_named parts.0.now) (host ++ rule.colon ∷ port) (places_of parts.1)
CutsRest (Err fault) text = (host port : List ℕ) → rule.listed_of (host ∷ port ∷ pieces_at rule.colon text) ≡ Err (line_fault_number fault)
