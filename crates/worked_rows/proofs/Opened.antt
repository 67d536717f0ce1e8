-- All words that have to be opened for a script to compute.
use Rattle.std.specs.Fmt.{digits}
use Rattle.sha2.specs.Sha256.{sha256, hash_after, compress, rounds, schedule, first_words, digest_bytes}
use Rattle.silo_address.specs.ReadSilo.{silo_words, read_silo}
use Rattle.silo_address.specs.ReadGrain.{read_grain}
use Rattle.silo_address.specs.StatedHash.{stated_hash}
use Rattle.ring_range.specs.Meet.{meet_of}
use Rattle.ring_range.specs.Cut.{cut_parts}
use Rattle.directory_rules.specs.Happens.{happens}
use Rattle.script_rules.specs.Script.{read_line}
use Rattle.script_rules.specs.Lines.{outcome_line}
use Rattle.script_rules.specs.Show.{show_lines, mail_lines, owner_line, place_line}
use Rattle.dump_rules.specs.Dump.{dump_of, dump_text}
use Rattle.dump_rules.specs.DumpShape.{is_dump}
use Rattle.dump_rules.specs.Verdict.{verdict}
use Rattle.script_rules.specs.Output.{performed, played}

unfoldable pub all_opened : Type 0
unfolding digits sha256 hash_after compress rounds schedule first_words digest_bytes silo_words read_silo read_grain stated_hash meet_of
    cut_parts happens read_line outcome_line show_lines mail_lines owner_line place_line dump_of dump_text is_dump verdict performed played
all_opened = Unit {0}
