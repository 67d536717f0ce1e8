use Rattle.std.proofs.Common.{refl, [], ◌∷◌}
use Rattle.script_rules.specs.Show.{range_line}
use Rattle.script_lines.proofs.Fronts.{begins_with_the_first}
use Rattle.console_command.proofs.Lines.{begins_with_itself}
use Rattle.console_command.proofs.Results.{not_ok}
use Rattle.console_command.proofs.Rows.{shows_each, shows_next}
use Rattle.console_command.proofs.shown.show_each_range.Goals as goal

pub loop-row-init : goal.loop-row-init
loop-row-init c = record { shows = refl; begins = begins_with_itself _ _ refl }

pub loop-row-preserved : goal.loop-row-preserved
loop-row-preserved c =
    let rows = c.args.ranges.now in
    record {
      shows =
          shows_next (λ e. range_line c.args.world.now e.0 e.1 ∷ []) c.args.out.now.items rows rows c.loop-row.out.items
          c.show_range.new.out.items c.loop-row.row-index c.row-item.result
          c.loop-row-test.true c.row-item.is c.in_ok-show_range.ensures.shown c.loop-row.invariant.shows;
      begins = begins_with_the_first _ _ _ c.loop-row.invariant.begins c.in_ok-show_range.ensures.kept;
    }

pub returns-in_err-show_range-clause-shown : goal.returns-in_err-show_range-clause-shown
returns-in_err-show_range-clause-shown c = not_ok _ c.from_residual.result c.from_residual.ensures.0

pub returns-in_err-show_range-clause-kept : goal.returns-in_err-show_range-clause-kept
returns-in_err-show_range-clause-kept c = begins_with_the_first _ _ _ c.loop-row.invariant.begins c.show_range.ensures.kept

pub returns-clause-shown : goal.returns-clause-shown
returns-clause-shown c =
    shows_each (λ e. range_line c.args.world.now e.0 e.1) c.args.out.now.items c.args.ranges.now c.loop-row.out.items c.loop-row.row-index
    c.loop-row-test.false c.loop-row.invariant.shows

pub returns-clause-kept : goal.returns-clause-kept
returns-clause-kept c = c.loop-row.invariant.begins
