-- How what the code read is what the rule reads.
use Rattle.std.specs.Prelude.{◌≡◌, ℕ, ⊤, List, ◌∷◌, Option, Some, Result, Ok, Err, IsOk}
use Rattle.directory_rules.specs.Event as event
use Rattle.script_rules.specs.Script as script
use Rattle.script_lines.specs.declared.error.ScriptFault.{ScriptFault}
use Rattle.script_lines.specs.declared.error.ReadError.{ReadError}
use Rattle.script_lines.specs.declared.error.ReadError.TheVariants.{Fault, OutOfMemory}
use Rattle.script_lines.specs.Numbers.{script_fault_number}

-- what a reading says in the rule's terms: the value as the rule has it, or the number of the fault
abbrev pub told : {A B : Type 0} → (A → B) → Result A ScriptFault → Result B ℕ
told view (Ok value) = Ok (view value)
told view (Err fault) = Err (script_fault_number fault)

-- a fault is the rule's, by its number; memory runs out only where the rule finds no fault
abbrev pub Fails : {B : Type 0} → ReadError → Result B ℕ → Type 0
Fails (Fault fault) rule = rule ≡ Err (script_fault_number fault)
Fails OutOfMemory rule = IsOk rule

-- what was read is what the rule reads, or the reading fails as the rule says
abbrev pub Reads : {A B : Type 0} → (A → B) → Result A ReadError → Result B ℕ → Type 0
Reads view (Ok value) rule = rule ≡ Ok (view value)
Reads view (Err error) rule = Fails error rule

-- places were read, and there are some
abbrev pub HasPlaces : Result (List ℕ) ℕ → Type 0
HasPlaces (Ok (place ∷ places)) = ⊤
HasPlaces read = ⊥

-- a join with places was read
abbrev pub ListsPlaces : Result script.Command ℕ → Type 0
ListsPlaces (Ok (script.Happen (event.Join silo (place ∷ places)))) = ⊤
ListsPlaces read = ⊥

-- the line asks for a join with places, the only command that takes memory
abbrev pub IsJoinWithPlaces : Result (Option script.Command) ℕ → Type 0
IsJoinWithPlaces (Ok (Some command)) = ListsPlaces (Ok command)
IsJoinWithPlaces line = ⊥
