-- The dump that bytes tell, as it is read.
use Rattle.std.specs.Prelude.{ℕ, if◌then◌else◌, List, Option, Some, None, Result, Ok, Err}
use Rattle.serde_json.specs.Data.{Data}
use Rattle.serde_json.specs.Read.{read}
use Rattle.dump_rules.specs.Dump.{DumpValue}
use Rattle.dump_rules.specs.DumpIn.{dump_in}
use Rattle.dump_rules.specs.DumpShape.{is_dump}
use Rattle.dump_rules.specs.Judged.{value_in}
use Rattle.dumps.specs.declared.error.DumpError.{DumpError}
use Rattle.dumps.specs.declared.error.DumpError.TheVariants.{NotJson, NotADump}

-- the lists that a value tells, if it does
abbrev pub told_lists : Option DumpValue → Result DumpValue DumpError
told_lists None = Err NotADump
told_lists (Some dump) = Ok dump

-- the lists of the value that bytes tell, if they do
abbrev pub told_value : Option Data → Result DumpValue DumpError
told_value None = Err NotJson
told_value (Some value) = told_lists (dump_in value)

-- the lists that a text tells
abbrev pub text_told : List ℕ → Result DumpValue DumpError
text_told text = told_value (read text)

-- the lists that bytes tell
abbrev pub lists_told : List ℕ → Result DumpValue DumpError
lists_told bytes = told_value (value_in bytes)

-- lists that were read, if they are a dump
abbrev pub if_a_dump : Result DumpValue DumpError → Result DumpValue DumpError
if_a_dump (Ok dump) = if is_dump dump then Ok dump else Err NotADump
if_a_dump (Err error) = Err error

-- the dump that bytes tell
abbrev pub told : List ℕ → Result DumpValue DumpError
told bytes = if_a_dump (lists_told bytes)
