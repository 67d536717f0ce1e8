use Rattle.std.proofs.Common.{◌-◌, ◌≤◌}
use Rattle.script_lines.specs.Spaced.{BeginsWith}
use Rattle.console_command.proofs.Turns.{SettlesFrom}
use Rattle.console_command.proofs.commands.settle.Given as goal

abbrev pub invariant-loop-delivered : goal.invariant-loop-delivered
invariant-loop-delivered l = record {
  within : l._delivered ≤ l.most;
  settles : SettlesFrom l.fn.world l.fn.out.items (l.most - l._delivered) l.world l.out.items;
  begins : BeginsWith l.fn.out.items l.out.items;
}
