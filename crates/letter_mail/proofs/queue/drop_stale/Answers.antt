use Rattle.std.proofs.Common.{rules}
use Rattle.letter_mail.proofs.queue.drop_stale.Goals as goal

pub loop-number-preserved : goal.loop-number-preserved
loop-number-preserved c = search rules
