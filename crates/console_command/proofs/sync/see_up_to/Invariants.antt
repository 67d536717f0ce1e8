use Rattle.std.proofs.Common.{◌+◌, ◌-◌, map}
use Rattle.std.specs.List.{range_with_len}
use Rattle.directory_rules.specs.Event.{See}
use Rattle.script_lines.specs.Spaced.{BeginsWith}
use Rattle.console_command.specs.Commands.{sights}
use Rattle.console_command.proofs.Sights.{GoesOn}
use Rattle.console_command.proofs.sync.see_up_to.Given as goal

abbrev pub invariant-loop-seen : goal.invariant-loop-seen
invariant-loop-seen l = record {
  goes : GoesOn (sights l.current l.unseen) l.fn.world l.fn.out.items
      (map (See l.unseen.silo) (range_with_len (l.seen + 1) (l.current - l.seen))) l.world l.out.items;
  begins : BeginsWith l.fn.out.items l.out.items;
}
