use Rattle.script_lines.proofs.Fronts.{begins_with_the_first}
use Rattle.console_command.proofs.Lines.{begins_with_itself}
use Rattle.console_command.proofs.Results.{begins_anyhow, not_ok}
use Rattle.console_command.proofs.shown.show_silo.Goals as goal

pub returns-in_default-clause-kept : goal.returns-in_default-clause-kept
returns-in_default-clause-kept c = begins_anyhow c.write_silo.result _ _ _ c.write_silo.ensures.written c.write_silo.ensures.unchanged

pub returns-in_err-write_silo-clause-shown : goal.returns-in_err-write_silo-clause-shown
returns-in_err-write_silo-clause-shown c = not_ok _ c.from_residual.result c.from_residual.ensures.0

pub returns-in_err-write_silo-clause-kept : goal.returns-in_err-write_silo-clause-kept
returns-in_err-write_silo-clause-kept c = begins_with_itself _ _ c.in_err-write_silo.ensures.unchanged

pub returns-clause-kept : goal.returns-clause-kept
returns-clause-kept c =
    begins_with_the_first _ _ _ (record { more = _; joined = c.in_ok-write_silo.ensures.written }) c.show_held.ensures.kept
