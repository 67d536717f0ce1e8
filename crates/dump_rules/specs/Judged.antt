-- Bytes judged: 971 where no value is read from them, else 972 where it tells no dump, else by the verdict.
use Rattle.std.specs.Prelude.{ℕ, if◌then◌else◌, List, Option, Some, None}
use Rattle.std.specs.Str.{is_utf8}
use Rattle.serde_json.specs.Data.{Data}
use Rattle.serde_json.specs.Read.{read}
use Rattle.dump_rules.specs.Dump.{DumpValue}
use Rattle.texts.specs.Printed.{Output}
use Rattle.dump_rules.specs.Judgement.{no_value, no_dump, judged}
use Rattle.dump_rules.specs.DumpIn.{dump_in}

-- the value that the bytes tell: they have to be UTF-8 and JSON
abbrev pub value_in : List ℕ → Option Data
value_in bytes = if is_utf8 bytes then read bytes else None

-- what is said of the lists that a value tells, if it does
abbrev pub judged_lists : Option DumpValue → Output
judged_lists None = no_dump
judged_lists (Some dump) = judged dump

-- what is said of the value that bytes tell, if they do
abbrev pub judged_value : Option Data → Output
judged_value None = no_value
judged_value (Some value) = judged_lists (dump_in value)

-- what is said of bytes
abbrev pub judged_text : List ℕ → Output
judged_text bytes = judged_value (value_in bytes)
