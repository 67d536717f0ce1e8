use Rattle.std.proofs.Common.{rules}
use Rattle.letter_mail.proofs.queue.Queue.advance.Goals as goal

pub returns : goal.returns
returns c = search rules
