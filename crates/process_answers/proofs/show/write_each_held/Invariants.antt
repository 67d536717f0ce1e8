use Rattle.std.proofs.Common.{◌≡◌, ◌++◌, map, take}
use Rattle.texts.specs.Printed.{text_of_lines}
use Rattle.script_rules.specs.Show.{held_line}
use Rattle.script_lines.specs.Spaced.{BeginsWith}
use Rattle.process_answers.proofs.show.write_each_held.Given as goal

abbrev pub invariant-loop-row : goal.invariant-loop-row
invariant-loop-row l = record {
  written : l.out.items ≡ l.fn.out.items ++ text_of_lines (map (λ e. held_line l.silo e.0 e.1) (take l.row-index l.activations));
  begins : BeginsWith l.fn.out.items l.out.items;
}
