use Rattle.std.proofs.Common.{drop}
use Rattle.std.specs.Prelude.{flat_map}
use Rattle.script_lines.specs.Spaced.{BeginsWith}
use Rattle.console_command.specs.Commands.{sights}
use Rattle.console_command.proofs.Sights.{GoesOn}
use Rattle.console_command.proofs.sync.see_all.Given as goal

abbrev pub invariant-loop-unseen : goal.invariant-loop-unseen
invariant-loop-unseen l = record {
  goes : GoesOn (flat_map (sights l.current) l.silos) l.fn.world l.fn.out.items (flat_map (sights l.current) (drop l.unseen-index l.silos))
      l.world l.out.items;
  begins : BeginsWith l.fn.out.items l.out.items;
}
