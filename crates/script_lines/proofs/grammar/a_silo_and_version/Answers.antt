use Rattle.std.proofs.Common.{rules}
use Rattle.script_lines.proofs.grammar.a_silo_and_version.Goals as goal

pub returns-in_err-silo : goal.returns-in_err-silo
returns-in_err-silo c = search rules

pub returns-in_err-version : goal.returns-in_err-version
returns-in_err-version c = search rules

pub returns : goal.returns
returns c = search rules
