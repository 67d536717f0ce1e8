use Rattle.script_lines.proofs.Fronts.{begins_with_the_first}
use Rattle.console_command.proofs.Lines.{begins_with_itself}
use Rattle.console_command.proofs.Results.{not_ok, on_err}
use Rattle.console_command.proofs.shown.show.Goals as goal

pub returns-in_err-write_version-clause-performed : goal.returns-in_err-write_version-clause-performed
returns-in_err-write_version-clause-performed c = not_ok _ c.from_residual.result c.from_residual.ensures.0

pub returns-in_err-write_version-clause-kept : goal.returns-in_err-write_version-clause-kept
returns-in_err-write_version-clause-kept c = on_err c.from_residual.result (begins_with_itself _ _ c.in_err-write_version.ensures.unchanged)

pub returns-in_err-show_silos-clause-performed : goal.returns-in_err-show_silos-clause-performed
returns-in_err-show_silos-clause-performed c = not_ok _ c.from_residual-in_err-show_silos.result c.from_residual-in_err-show_silos.ensures.0

pub returns-in_err-show_silos-clause-kept : goal.returns-in_err-show_silos-clause-kept
returns-in_err-show_silos-clause-kept c =
    on_err c.from_residual-in_err-show_silos.result (begins_with_the_first _ _ _
    (record { more = _; joined = c.in_ok-write_version.ensures.written }) c.show_silos.ensures.kept)

pub returns-clause-kept : goal.returns-clause-kept
returns-clause-kept c =
    on_err c.show_ranges.result (begins_with_the_first _ _ _
    (begins_with_the_first _ _ _ (record { more = _; joined = c.in_ok-write_version.ensures.written }) c.show_silos.ensures.kept)
    c.show_ranges.ensures.kept)
