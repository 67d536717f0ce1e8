use Rattle.std.proofs.Common.{Ok, Some, ap, map, option_and_then, subst, sym, ◌∙◌}
use Rattle.clap.specs.Simple.{App, is_simple, subcommand_of}
use Rattle.clap.specs.Faults.{fault_of, is_simple_and_free}
use Rattle.clap.specs.Kinds.{HasKind}
use Rattle.console_command.specs.ClapCommand.{app}
use Rattle.console_command.specs.CommandLine.{line_in, line_of}
use Rattle.console_command.proofs.Accepted.{accepted, never_none, range_of_line}
use Rattle.console_command.proofs.Refused.{refused}
use Rattle.console_command.proofs.command_line.read_line.Goals as goal

pub unreachable-requires : goal.unreachable-requires
unreachable-requires g c =
    let words = map g.S.AsStr.text c.args.words.now in
    let command = c.in_ok-command.ensures in
    let rows = (c.in-Ok.ensures.matches (ap is_simple command.2)).1 in
    let faults = ap (λ (a : App). fault_of a words) (sym command.2) ∙ c.in-Ok.ensures.kinds (ap is_simple_and_free command.2) in
    let read = ap (option_and_then line_in) (ap (λ (a : App). subcommand_of a words) (sym command.2) ∙ sym rows) ∙ sym c.line_in.ensures ∙ c.in-None.is in
    never_none (line_of (app command.0) words) read (accepted command.0 words faults)

pub returns-in-Some-Ok-clause-reads : goal.returns-in-Some-Ok-clause-reads
returns-in-Some-Ok-clause-reads g c =
    let words = map g.S.AsStr.text c.args.words.now in
    let command = c.in_ok-command.ensures in
    let rows = (c.in-Ok.ensures.matches (ap is_simple command.2)).1 in
    let faults = c.in-Ok.ensures.kinds (ap is_simple_and_free command.2) in (
      command.0,
      command.1,
      (
        ap (option_and_then line_in) (ap (λ (a : App). subcommand_of a words) (sym command.2) ∙ sym rows) ∙ sym c.line_in.ensures
            ∙ c.in-Some-Ok.is ∙ ap Some c.in-Some-Ok.field-0-is,
        ap (λ (a : App). fault_of a words) (sym command.2) ∙ faults,
      ),
    )

pub returns-in-Some-Ok-clause-in_range : goal.returns-in-Some-Ok-clause-in_range
returns-in-Some-Ok-clause-in_range g c =
    let read = returns-in-Some-Ok-clause-reads g c in
    let words = map g.S.AsStr.text c.args.words.now in
    range_of_line (line_of (app read.0) words) (Ok c.in-Some-Ok.line) read.2.0 (accepted read.0 words read.2.1)

pub returns-clause-reads : goal.returns-clause-reads
returns-clause-reads g c =
    let words = map g.S.AsStr.text c.args.words.now in
    let command = c.in_ok-command.ensures in
    let kinds = c.in-Err.ensures.kinds (ap is_simple_and_free command.2) in
    refused words command.0 command.1 c.in-Err.error c.refusal.result
    (subst (λ (a : App). HasKind (fault_of a words) c.in-Err.error) command.2 kinds) c.refusal.ensures

pub returns-in-Some-Err-clause-reads : goal.returns-in-Some-Err-clause-reads
returns-in-Some-Err-clause-reads g c =
    let words = map g.S.AsStr.text c.args.words.now in
    let command = c.in_ok-command.ensures in
    let rows = (c.in-Ok.ensures.matches (ap is_simple command.2)).1 in
    let faults = c.in-Ok.ensures.kinds (ap is_simple_and_free command.2) in (
      command.0,
      command.1,
      (
        ap (option_and_then line_in) (ap (λ (a : App). subcommand_of a words) (sym command.2) ∙ sym rows) ∙ sym c.line_in.ensures
            ∙ c.in-Some-Err.is ∙ ap Some c.in-Some-Err.field-0-is,
        ap (λ (a : App). fault_of a words) (sym command.2) ∙ faults,
      ),
    )
