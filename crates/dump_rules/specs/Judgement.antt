-- A dump judged: the verdict's line, and the status 1 where it is a fault.
use Rattle.std.specs.Prelude.{ℕ, is_some, [], ◌∷◌, codes, if◌then◌else◌}
use Rattle.std.specs.Fmt.{decimal}
use Rattle.texts.specs.Words.{sentence}
use Rattle.texts.specs.Printed.{Output, text_of_lines}
use Rattle.dump_rules.specs.Dump.{DumpValue}
use Rattle.dump_rules.specs.DumpShape.{is_dump}
use Rattle.dump_rules.specs.Verdict.{verdict, verdict_line}

-- the verdict's line, and its status
abbrev pub judgement_of : DumpValue → Output
judgement_of dump = record { text = text_of_lines (verdict_line (verdict dump) ∷ []); status = if is_some (verdict dump) then 1 else 0 }

-- what is said of what is no dump: a number and nothing else, with status 1
abbrev pub refused_by : ℕ → Output
refused_by number = record { text = text_of_lines (sentence (codes "check" ∷ decimal number ∷ []) ∷ []); status = 1 }

-- no value could be read; or it is no dump
abbrev pub no_value : Output
no_value = refused_by 971

abbrev pub no_dump : Output
no_dump = refused_by 972

-- lists judged: 972 where they aren't a dump, else by the verdict
abbrev pub judged : DumpValue → Output
judged dump = if is_dump dump then judgement_of dump else no_dump
