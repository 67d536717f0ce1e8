-- How what the code read is what the rule reads.
use Rattle.std.specs.Prelude.{◌≡◌, ⊤, ℕ, Result, Ok, Err, IsOk}
use Rattle.process_rules.specs.ReadLetter as rule
use Rattle.process_lines.specs.declared.fault.LineFault.{LineFault}
use Rattle.process_lines.specs.declared.fault.LineError.{LineError}
use Rattle.process_lines.specs.declared.fault.LineError.TheVariants.{Fault, OutOfMemory}
use Rattle.process_lines.specs.declared.head.Head.{Head}
use Rattle.process_lines.specs.FaultNumbers.{line_fault_number}

-- what a reading says in the rule's terms: the value as the rule has it, or the number of the fault
abbrev pub told : {A B : Type 0} → (A → B) → Result A LineFault → Result B ℕ
told view (Ok value) = Ok (view value)
told view (Err fault) = Err (line_fault_number fault)

-- a fault is the rule's, by its number; memory runs out only where the rule finds no fault
abbrev pub Fails : {B : Type 0} → LineError → Result B ℕ → Type 0
Fails (Fault fault) rule = rule ≡ Err (line_fault_number fault)
Fails OutOfMemory rule = IsOk rule

-- what was read is what the rule reads, or the reading fails as the rule says
abbrev pub Reads : {A B : Type 0} → (A → B) → Result A LineError → Result B ℕ → Type 0
Reads view (Ok value) rule = rule ≡ Ok (view value)
Reads view (Err error) rule = Fails error rule

-- so, but for memory, which may run out at any time
abbrev pub FailsUnlessMemory : {B : Type 0} → LineError → Result B ℕ → Type 0
FailsUnlessMemory (Fault fault) rule = rule ≡ Err (line_fault_number fault)
FailsUnlessMemory OutOfMemory rule = ⊤

abbrev pub ReadsUnlessMemory : {A B : Type 0} → (A → B) → Result A LineError → Result B ℕ → Type 0
ReadsUnlessMemory view (Ok value) rule = rule ≡ Ok (view value)
ReadsUnlessMemory view (Err error) rule = FailsUnlessMemory error rule

-- what stands in front of a kind, as the rule has it
abbrev pub head_of : Head → rule.Head
head_of head = record { from = head.from; to = head.to; version = head.version }
