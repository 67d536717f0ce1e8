-- All words that have to be opened for a text to be read and judged.
use Rattle.std.specs.Fmt.{digits}
use Rattle.std.specs.Str.{chars, is_utf8}
use Rattle.serde_json.proofs.OnLiterals.{serde_json_on_literals}
use Rattle.silo_address.specs.ReadSilo.{silo_words, read_silo}
use Rattle.silo_address.specs.ReadGrain.{read_grain}
use Rattle.silo_address.specs.ActivationText.{read_activation}
use Rattle.silo_address.specs.StatedHash.{stated_hash}
use Rattle.ring_range.specs.Meet.{meet_of}
use Rattle.ring_range.specs.Cut.{cut_parts}
use Rattle.ring_range.specs.Text.{read_range}
use Rattle.dump_rules.specs.DumpShape.{is_dump}
use Rattle.dump_rules.specs.Verdict.{verdict}
use Rattle.dump_rules.specs.DumpIn.{dump_in}

unfoldable pub all_opened : Type 0
unfolding digits chars is_utf8 serde_json_on_literals silo_words read_silo read_grain read_activation stated_hash meet_of cut_parts
    read_range is_dump verdict dump_in
all_opened = Unit {0}
