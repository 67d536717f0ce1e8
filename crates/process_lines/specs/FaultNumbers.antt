-- The numbers by which users know the faults of a line.
use Rattle.std.specs.Prelude.{ℕ}
use Rattle.silo_address.specs.Numbers.{silo_error_number, grain_error_number}
use Rattle.process_lines.specs.declared.fault.LineFault.{LineFault}
use Rattle.process_lines.specs.declared.fault.LineFault.TheVariants.{LineTooLong, Unended, NotText, UnknownCommand, WordCount, Kind, Silo, Grain, Policy, Activation, Range, Digest, End, NotANumber, Listed}

-- the stated number of a fault
abbrev pub line_fault_number : LineFault → ℕ
line_fault_number LineTooLong = 924
line_fault_number Unended = 931
line_fault_number NotText = 925
line_fault_number UnknownCommand = 921
line_fault_number WordCount = 922
line_fault_number Kind = 927
line_fault_number (Silo fault) = silo_error_number fault
line_fault_number (Grain fault) = grain_error_number fault
line_fault_number Policy = 926
line_fault_number Activation = 929
line_fault_number Range = 928
line_fault_number Digest = 930
line_fault_number End = 932
line_fault_number NotANumber = 923
line_fault_number Listed = 933
