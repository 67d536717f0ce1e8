use Rattle.std.proofs.Common.{rules}
use Rattle.console_command.proofs.Told.{in_words}
use Rattle.console_command.proofs.errors.fault_text.Goals as goal

pub returns : goal.returns
returns c = in_words c.args.fault c.words_or.result.now c.line_and_words.result c.words_or.ensures.some (search rules)
