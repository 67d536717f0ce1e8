use Rattle.std.proofs.Common.{ap, ◌∙◌}
use Rattle.std.specs.Option.{option_map_or}
use Rattle.clap.specs.Matches.{found_of, one_text}
use Rattle.clap.proofs.WalkLemmas.{one_text-rows}
use Rattle.console_command.specs.CommandLine.{number_or_zero}
use Rattle.console_command.proofs.Numbers.{one_number}
use Rattle.console_command.proofs.command_line.number_of.Goals as goal

pub returns : goal.returns
returns c =
    let found = found_of c.args.settings.now in
    let option = c.args.option.now in
    let read = one_number (one_text found option) c.get_one.result c.get_one.ensures.none c.get_one.ensures.value in
    c.unwrap_or.ensures ∙ read ∙ ap (λ o. option_map_or number_or_zero o 0) (one_text-rows found option)
