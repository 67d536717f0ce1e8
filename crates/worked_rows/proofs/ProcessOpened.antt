-- All words that have to be opened for a row to compute.
use Rattle.std.specs.Fmt.{digits}
use Rattle.sha2.specs.Sha256.{sha256, hash_after, compress, rounds, schedule, first_words, digest_bytes}
use Rattle.hex.specs.Hex.{encode_with, decode_pairs}
use Rattle.silo_address.specs.ReadSilo.{silo_words, read_silo}
use Rattle.silo_address.specs.ReadGrain.{read_grain}
use Rattle.silo_address.specs.ActivationText.{read_activation}
use Rattle.silo_address.specs.StatedHash.{stated_hash}
use Rattle.ring_range.specs.Text.{read_range}
use Rattle.ring_range.specs.Meet.{meet_of}
use Rattle.ring_range.specs.Cut.{cut_parts}
use Rattle.process_rules.specs.LetterText.{letter_line}
use Rattle.process_rules.specs.ReadLetter.{read_letter}
use Rattle.process_rules.specs.ReadLine.{read_silo_line, unended_fault}
use Rattle.process_rules.specs.Show.{show_lines, dump_line, figures_line, grain_owner_line, grain_place_line}
use Rattle.process_rules.specs.Answer.{answered, answered_as}
use Rattle.process_rules.specs.Output.{written_on}

unfoldable pub all_opened : Type 0
unfolding digits sha256 hash_after compress rounds schedule first_words digest_bytes encode_with decode_pairs silo_words read_silo
    read_grain read_activation stated_hash read_range meet_of cut_parts letter_line read_letter read_silo_line unended_fault show_lines
    dump_line figures_line grain_owner_line grain_place_line answered answered_as written_on
all_opened = Unit {0}
