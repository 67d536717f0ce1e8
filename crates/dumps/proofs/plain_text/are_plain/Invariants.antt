use Rattle.std.proofs.Common.{◌≡◌, take}
use Rattle.std.specs.List.{list_all}
use Rattle.dumps.specs.PlainText.{is_plain_byte}
use Rattle.dumps.proofs.plain_text.are_plain.Given as goal

abbrev pub invariant-loop-byte : goal.invariant-loop-byte
invariant-loop-byte l = l.all ≡ list_all is_plain_byte (take l.byte-index l.text)
