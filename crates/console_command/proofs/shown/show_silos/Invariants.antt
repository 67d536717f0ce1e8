use Rattle.directory_rules.specs.Happens.{node_of}
use Rattle.membership_view.specs.Views.{known_now, rows_in}
use Rattle.script_rules.specs.Show.{silo_lines}
use Rattle.script_lines.specs.Spaced.{BeginsWith}
use Rattle.console_command.proofs.Rows.{Shows}
use Rattle.console_command.proofs.shown.show_silos.Given as goal

abbrev pub invariant-loop-silo : goal.invariant-loop-silo
invariant-loop-silo l = record {
  shows : Shows (λ e. silo_lines e.0 e.1 (node_of l.world e.0)) l.fn.out.items (known_now l.fn.world.views) l.out.items
      (rows_in l.fn.world.views.version l.silo-iterator);
  begins : BeginsWith l.fn.out.items l.out.items;
}
