use Rattle.std.proofs.Common.{refl}
use Rattle.script_rules.specs.Show.{held_line}
use Rattle.script_lines.proofs.Fronts.{begins_with_the_first}
use Rattle.console_command.proofs.Lines.{begins_with_itself}
use Rattle.console_command.proofs.Results.{not_ok}
use Rattle.console_command.proofs.Rows.{shows_each, shows_next_line}
use Rattle.console_command.proofs.shown.show_each_held.Goals as goal

pub loop-row-init : goal.loop-row-init
loop-row-init c = record { shows = refl; begins = begins_with_itself _ _ refl }

pub loop-row-preserved : goal.loop-row-preserved
loop-row-preserved c =
    let rows = c.args.activations.now in
    record {
      shows =
          shows_next_line (λ e. held_line c.args.silo.now e.0 e.1) c.args.out.now.items rows rows c.loop-row.out.items
          c.write_held.new.out.items c.loop-row.row-index c.row-item.result
          c.loop-row-test.true c.row-item.is c.in_ok-write_held.ensures.written c.loop-row.invariant.shows;
      begins = begins_with_the_first _ _ _ c.loop-row.invariant.begins (record { more = _; joined = c.in_ok-write_held.ensures.written });
    }

pub returns-in_err-write_held-clause-shown : goal.returns-in_err-write_held-clause-shown
returns-in_err-write_held-clause-shown c = not_ok _ c.from_residual.result c.from_residual.ensures.0

pub returns-in_err-write_held-clause-kept : goal.returns-in_err-write_held-clause-kept
returns-in_err-write_held-clause-kept c =
    begins_with_the_first _ _ _ c.loop-row.invariant.begins (begins_with_itself _ _ c.in_err-write_held.ensures.unchanged)

pub returns-clause-shown : goal.returns-clause-shown
returns-clause-shown c =
    shows_each (λ e. held_line c.args.silo.now e.0 e.1) c.args.out.now.items c.args.activations.now c.loop-row.out.items
    c.loop-row.row-index c.loop-row-test.false c.loop-row.invariant.shows

pub returns-clause-kept : goal.returns-clause-kept
returns-clause-kept c = c.loop-row.invariant.begins
