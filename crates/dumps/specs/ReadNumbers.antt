-- The numbers by which users know why no dump was read.
use Rattle.std.specs.Prelude.{ℕ, Option, Some, None}
use Rattle.dumps.specs.declared.error.DumpError.{DumpError}
use Rattle.dumps.specs.declared.error.DumpError.TheVariants.{NotJson, NotADump, OutOfMemory}

-- none where memory ran out
abbrev pub read_error_number : DumpError → Option ℕ
read_error_number NotJson = Some 971
read_error_number NotADump = Some 972
read_error_number OutOfMemory = None
