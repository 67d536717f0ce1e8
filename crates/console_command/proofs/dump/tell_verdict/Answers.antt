use Rattle.std.proofs.Common.{refl, subst, sym}
use Rattle.rebuild_checker.specs.Faults.{IsLineOf}
use Rattle.console_command.proofs.Judged.{verdict_told}
use Rattle.console_command.proofs.Lines.{begins_with_itself}
use Rattle.console_command.proofs.Results.{not_ok, on_err}
use Rattle.console_command.proofs.dump.tell_verdict.Goals as goal

pub returns-clause-performed : goal.returns-clause-performed
returns-clause-performed c =
    verdict_told c.args.world.now c.in_ok-dump.dump c.check.result c.as_bytes.result.now c.args.out.now.items _ c.in_ok-dump.ensures.right
    c.in_ok-dump.ensures.told
    c.check.ensures.verdict (subst (IsLineOf c.check.result) (sym c.as_bytes.ensures.value) c.in_ok-text.ensures)
    c.in_ok-extend_from_slice.ensures.items

pub returns-in_err-dump-clause-performed : goal.returns-in_err-dump-clause-performed
returns-in_err-dump-clause-performed c = not_ok _ c.from_residual.result c.from_residual.ensures.0

pub returns-in_err-dump-clause-kept : goal.returns-in_err-dump-clause-kept
returns-in_err-dump-clause-kept c = on_err c.from_residual.result (begins_with_itself _ _ refl)

pub returns-in_err-text-clause-performed : goal.returns-in_err-text-clause-performed
returns-in_err-text-clause-performed c = not_ok _ c.from_residual-in_err-text.result c.from_residual-in_err-text.ensures.0

pub returns-in_err-text-clause-kept : goal.returns-in_err-text-clause-kept
returns-in_err-text-clause-kept c = on_err c.from_residual-in_err-text.result (begins_with_itself _ _ refl)

pub returns-in_err-extend_from_slice-clause-performed : goal.returns-in_err-extend_from_slice-clause-performed
returns-in_err-extend_from_slice-clause-performed c =
    not_ok _ c.from_residual-in_err-extend_from_slice.result c.from_residual-in_err-extend_from_slice.ensures.0

pub returns-in_err-extend_from_slice-clause-kept : goal.returns-in_err-extend_from_slice-clause-kept
returns-in_err-extend_from_slice-clause-kept c =
    on_err c.from_residual-in_err-extend_from_slice.result (begins_with_itself _ _ c.in_err-extend_from_slice.ensures.items)

pub returns-clause-kept : goal.returns-clause-kept
returns-clause-kept c = tt
