use Rattle.std.proofs.Common.{refl}
use Rattle.console_command.proofs.Lines.{begins_with_itself}
use Rattle.console_command.proofs.Results.{not_ok, on_err}
use Rattle.console_command.proofs.dump.tell_dump.Goals as goal

pub returns-in_err-dump-clause-performed : goal.returns-in_err-dump-clause-performed
returns-in_err-dump-clause-performed c = not_ok _ c.from_residual.result c.from_residual.ensures.0

pub returns-in_err-dump-clause-kept : goal.returns-in_err-dump-clause-kept
returns-in_err-dump-clause-kept c = on_err c.from_residual.result (begins_with_itself _ _ refl)

pub returns-in_err-text-clause-performed : goal.returns-in_err-text-clause-performed
returns-in_err-text-clause-performed c = not_ok _ c.from_residual-in_err-text.result c.from_residual-in_err-text.ensures.0

pub returns-in_err-text-clause-kept : goal.returns-in_err-text-clause-kept
returns-in_err-text-clause-kept c = on_err c.from_residual-in_err-text.result (begins_with_itself _ _ refl)

pub returns-clause-kept : goal.returns-clause-kept
returns-clause-kept c = on_err c.write_line.result c.write_line.ensures.kept
