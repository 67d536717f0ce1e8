use Rattle.std.proofs.Common.{rules}
use Rattle.letter_mail.proofs.kept.body_by.Goals as goal

pub returns-in-Taken : goal.returns-in-Taken
returns-in-Taken c = search rules
