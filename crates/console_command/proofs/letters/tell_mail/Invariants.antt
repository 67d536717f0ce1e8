use Rattle.std.proofs.Common.{◌+◌, ◌-◌, ◌≤◌}
use Rattle.std.specs.List.{range_with_len}
use Rattle.directory_rules.specs.Mail.{letter_of}
use Rattle.script_lines.specs.Spaced.{BeginsWith}
use Rattle.console_command.specs.Reports.{lines_of_letter}
use Rattle.console_command.proofs.Rows.{Shows}
use Rattle.console_command.proofs.letters.tell_mail.Given as goal

abbrev pub invariant-loop-before : goal.invariant-loop-before
invariant-loop-before l = record {
  within : l.before ≤ l.sent;
  shows : Shows (λ n. lines_of_letter n (letter_of l.fn.world n)) l.fn.out.items (range_with_len 1 l.sent) l.out.items
      (range_with_len (l.before + 1) (l.sent - l.before));
  begins : BeginsWith l.fn.out.items l.out.items;
}
