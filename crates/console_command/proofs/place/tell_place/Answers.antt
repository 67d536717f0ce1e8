use Rattle.std.proofs.Common.{refl}
use Rattle.console_command.proofs.Lines.{begins_with_itself}
use Rattle.console_command.proofs.Results.{begins_at_error, not_ok, on_err}
use Rattle.console_command.proofs.place.tell_place.Goals as goal

pub returns-in_default-clause-kept : goal.returns-in_default-clause-kept
returns-in_default-clause-kept c = begins_at_error c.write_refusal.result _ _ c.write_refusal.ensures.unchanged

pub returns-in_err-chosen-clause-performed : goal.returns-in_err-chosen-clause-performed
returns-in_err-chosen-clause-performed c = not_ok _ c.from_residual.result c.from_residual.ensures.0

pub returns-in_err-chosen-clause-kept : goal.returns-in_err-chosen-clause-kept
returns-in_err-chosen-clause-kept c = on_err c.from_residual.result (begins_with_itself _ _ refl)

pub returns-clause-kept : goal.returns-clause-kept
returns-clause-kept c = begins_at_error c.write_place.result _ _ c.write_place.ensures.unchanged
