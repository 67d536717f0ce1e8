use Rattle.std.proofs.Common.{ap, codes, ◌∙◌}
use Rattle.clap.specs.Matches.{found_of}
use Rattle.clap.proofs.WalkLemmas.{first_value-rows}
use Rattle.console_command.specs.CommandLine.{token_told}
use Rattle.console_command.proofs.command_line.token_in.Goals as goal

pub returns-in-Some : goal.returns-in-Some
returns-in-Some c =
    c.token_told.ensures ∙ ap token_told (c.in-Some.ensures ∙ first_value-rows (found_of c.args.settings.now) (codes "join"))

pub returns-in-None : goal.returns-in-None
returns-in-None c = ap token_told (c.in-None.ensures ∙ first_value-rows (found_of c.args.settings.now) (codes "join"))
