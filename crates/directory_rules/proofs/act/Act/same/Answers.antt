use Rattle.std.proofs.Common.{rules}
use Rattle.directory_rules.proofs.act.Act.same.Goals as goal

pub returns-in-Deregister-Deregister : goal.returns-in-Deregister-Deregister
returns-in-Deregister-Deregister c = search rules
