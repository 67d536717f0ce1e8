use Rattle.std.proofs.Common.{drop, [], ◌∷◌}
use Rattle.script_rules.specs.Show.{held_line}
use Rattle.script_lines.specs.Spaced.{BeginsWith}
use Rattle.console_command.proofs.Rows.{Shows}
use Rattle.console_command.proofs.shown.show_each_held.Given as goal

abbrev pub invariant-loop-row : goal.invariant-loop-row
invariant-loop-row l = record {
  shows : Shows (λ e. held_line l.silo e.0 e.1 ∷ []) l.fn.out.items l.fn.activations l.out.items (drop l.row-index l.activations);
  begins : BeginsWith l.fn.out.items l.out.items;
}
