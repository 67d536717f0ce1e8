-- The numbers by which users know the faults of a line.
use Rattle.std.specs.Prelude.{ℕ}
use Rattle.silo_address.specs.Numbers.{silo_error_number, grain_error_number}
use Rattle.script_lines.specs.declared.error.ScriptFault.{ScriptFault}
use Rattle.script_lines.specs.declared.error.ScriptFault.TheVariants.{LineTooLong, NotText, UnknownCommand, WordCount, Silo, Grain, NotANumber, UnknownPolicy}

-- the stated number of a fault
abbrev pub script_fault_number : ScriptFault → ℕ
script_fault_number LineTooLong = 924
script_fault_number NotText = 925
script_fault_number UnknownCommand = 921
script_fault_number WordCount = 922
script_fault_number (Silo fault) = silo_error_number fault
script_fault_number (Grain fault) = grain_error_number fault
script_fault_number NotANumber = 923
script_fault_number UnknownPolicy = 926
