use Rattle.std.proofs.Common.{◌+◌, ◌-◌, arith, refl}
use Rattle.std.specs.List.{range_with_len}
use Rattle.directory_rules.specs.Mail.{letter_of}
use Rattle.console_command.specs.Reports.{lines_of_letter}
use Rattle.script_lines.proofs.Fronts.{begins_with_the_first}
use Rattle.console_command.proofs.Lines.{begins_with_itself}
use Rattle.console_command.proofs.Results.{not_ok}
use Rattle.console_command.proofs.Mailed.{mail_performed, no_number_left, numbers_at_first, numbers_left, one_above}
use Rattle.console_command.proofs.Rows.{shows_all, shows_from_start, shows_more}
use Rattle.console_command.proofs.letters.tell_mail.Goals as goal

pub loop-before-init : goal.loop-before-init
loop-before-init c =
    let sent = c.sent-sent.result in
    record {
      within = omega arith;
      shows =
          shows_from_start (λ n. lines_of_letter n (letter_of c.args.world.now n)) c.args.out.now.items (range_with_len 1 sent)
          (range_with_len (0 + 1) (sent - 0)) (numbers_at_first sent);
      begins = begins_with_itself _ _ refl;
    }

pub loop-before-preserved : goal.loop-before-preserved
loop-before-preserved c =
    let sent = c.sent-sent.result in
    let before = c.loop-before.before in
    record {
      within = one_above before sent c.loop-before-test.true;
      shows =
          shows_more (λ n. lines_of_letter n (letter_of c.args.world.now n)) c.args.out.now.items (range_with_len 1 sent)
          c.loop-before.out.items c.tell_letter.new.out.items
          (before + 1) (range_with_len (before + 1 + 1) (sent - (before + 1))) (range_with_len (before + 1) (sent - before))
          (numbers_left before sent c.loop-before-test.true) c.in_ok-tell_letter.ensures.told c.loop-before.invariant.shows;
      begins =
          begins_with_the_first c.args.out.now.items c.loop-before.out.items c.tell_letter.new.out.items c.loop-before.invariant.begins
          c.in_ok-tell_letter.ensures.kept;
    }

pub returns-clause-performed : goal.returns-clause-performed
returns-clause-performed c =
    let sent = c.sent-sent.result in
    let before = c.loop-before.before in
    mail_performed c.args.world.now sent c.args.out.now.items c.loop-before.out.items c.whole.ensures c.sent-sent.ensures
    (shows_all (λ n. lines_of_letter n (letter_of c.args.world.now n)) c.args.out.now.items (range_with_len 1 sent) c.loop-before.out.items
    (range_with_len (before + 1) (sent - before)) (no_number_left before sent c.loop-before-test.false) c.loop-before.invariant.shows)

pub returns-in_err-tell_letter-clause-performed : goal.returns-in_err-tell_letter-clause-performed
returns-in_err-tell_letter-clause-performed c = not_ok _ c.from_residual.result c.from_residual.ensures.0

pub returns-in_err-tell_letter-clause-kept : goal.returns-in_err-tell_letter-clause-kept
returns-in_err-tell_letter-clause-kept c = begins_with_the_first _ _ _ c.loop-before.invariant.begins c.tell_letter.ensures.kept

pub returns-clause-kept : goal.returns-clause-kept
returns-clause-kept c = c.loop-before.invariant.begins
