use Rattle.std.proofs.Common.{rules}
use Rattle.script_lines.proofs.show_lines.write_no_owner.Goals as goal

pub returns-clause-written : goal.returns-clause-written
returns-clause-written c = search rules
