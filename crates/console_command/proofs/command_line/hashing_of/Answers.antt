use Rattle.std.proofs.Common.{ap, codes, ◌∙◌}
use Rattle.std.specs.Option.{option_map_or}
use Rattle.clap.specs.Matches.{found_of}
use Rattle.clap.proofs.WalkLemmas.{first_value-rows}
use Rattle.hash_ring.specs.declared.hashing.Hashing.TheVariants.{Sha256}
use Rattle.console_command.specs.CommandLine.{hashing_named}
use Rattle.console_command.proofs.command_line.hashing_of.Goals as goal

pub returns-in-Some : goal.returns-in-Some
returns-in-Some c = c.hashing_named.ensures
    ∙ ap (λ o. option_map_or hashing_named o Sha256) (c.in-Some.ensures ∙ first_value-rows (found_of c.args.settings.now) (codes "hashing"))

pub returns-in-None : goal.returns-in-None
returns-in-None c =
    ap (λ o. option_map_or hashing_named o Sha256) (c.in-None.ensures ∙ first_value-rows (found_of c.args.settings.now) (codes "hashing"))
