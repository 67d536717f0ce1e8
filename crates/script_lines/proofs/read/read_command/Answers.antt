use Rattle.std.proofs.Common.{arith, rules}
use Rattle.std.proofs.lemmas.Grind.{common_steps}
use Rattle.script_rules.specs.Script.{read_line}
use Rattle.script_lines.proofs.read.read_command.Goals as goal

pub returns-then-not-is_text-clause-reads : goal.returns-then-not-is_text-clause-reads
unfolding read_line
returns-then-not-is_text-clause-reads c = search rules

pub returns-in_default-clause-reads : goal.returns-in_default-clause-reads
unfolding read_line
returns-in_default-clause-reads c = search rules

pub returns-then-is_remark-clause-reads : goal.returns-then-is_remark-clause-reads
unfolding read_line
returns-then-is_remark-clause-reads c = search rules

pub returns-clause-reads : goal.returns-clause-reads
unfolding read_line
returns-clause-reads c = grind (arith, common_steps)

pub returns-in_err-command-clause-reads : goal.returns-in_err-command-clause-reads
unfolding read_line
returns-in_err-command-clause-reads c = grind (arith, common_steps)

pub returns-in_err-command-clause-memory : goal.returns-in_err-command-clause-memory
unfolding read_line
returns-in_err-command-clause-memory c = grind (arith, common_steps)
