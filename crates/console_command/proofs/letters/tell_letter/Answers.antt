use Rattle.std.proofs.Common.{◌++◌, Option, ap, refl, sym, ◌∙◌, append-nil}
use Rattle.directory_rules.specs.State.{Letter}
use Rattle.texts.specs.Printed.{text_of_lines}
use Rattle.console_command.specs.Reports.{lines_of_letter}
use Rattle.console_command.proofs.Lines.{begins_with_itself}
use Rattle.console_command.proofs.Results.{begins_anyhow}
use Rattle.console_command.proofs.letters.tell_letter.Goals as goal

pub returns-in_default-clause-told : goal.returns-in_default-clause-told
returns-in_default-clause-told c =
    let out = c.args.out.now.items in
    sym (append-nil out) ∙ ap (λ (letter : Option Letter). out ++ text_of_lines (lines_of_letter c.args.number letter)) c.in_default.ensures

pub returns-in_default-clause-kept : goal.returns-in_default-clause-kept
returns-in_default-clause-kept c = begins_with_itself _ _ refl

pub returns-clause-kept : goal.returns-clause-kept
returns-clause-kept c = begins_anyhow c.write_letter.result _ _ _ c.write_letter.ensures.written c.write_letter.ensures.unchanged
