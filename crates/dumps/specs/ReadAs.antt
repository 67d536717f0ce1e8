-- How what the code read is what the rule reads.
use Rattle.std.specs.Prelude.{◌≡◌, ⊤, Option, Some, None, Result, Ok, Err}
use Rattle.dumps.specs.declared.error.DumpError.{DumpError}
use Rattle.dumps.specs.declared.error.DumpError.TheVariants.{NotJson, NotADump, OutOfMemory}

-- where nothing was read, a value tells nothing, unless memory ran out
abbrev pub Fails : {B : Type 0} → DumpError → Option B → Type 0
Fails NotJson told = ⊥
Fails NotADump told = told ≡ None
Fails OutOfMemory told = ⊤

-- what was read, seen so, is what the rule reads
abbrev pub IsReadingBy : {A B : Type 0} → (A → B) → Result A DumpError → Option B → Type 0
IsReadingBy see (Ok value) told = told ≡ Some (see value)
IsReadingBy see (Err error) told = Fails error told

abbrev pub IsReading : {A : Type 0} → Result A DumpError → Option A → Type 0
IsReading = IsReadingBy (λ value. value)
