use Rattle.std.proofs.Common.{arith}
use Rattle.script_lines.proofs.WrittenPieces.{word_by_word}
use Rattle.script_lines.proofs.event_lines.write_refusal.Goals as goal

pub returns-clause-written : goal.returns-clause-written
returns-clause-written c = grind (arith, word_by_word)
