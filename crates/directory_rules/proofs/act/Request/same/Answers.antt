use Rattle.std.proofs.Common.{rules}
use Rattle.directory_rules.proofs.act.Request.same.Goals as goal

pub returns-then-self-other-3 : goal.returns-then-self-other-3
returns-then-self-other-3 c = search rules
