use Rattle.std.proofs.Common.{rules}
use Rattle.letter_mail.proofs.keep.says.Goals as goal

pub returns-else-request-version-clause-exact : goal.returns-else-request-version-clause-exact
returns-else-request-version-clause-exact c = search rules
