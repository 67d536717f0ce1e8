use Rattle.std.proofs.Common.{◌≡◌, Some, ◌∷◌, [], rules}
use Rattle.clap.specs.declared.builder.action.ArgAction.TheVariants.{Set}
use Rattle.console_command.proofs.clap_command.option.Goals as goal

pub returns-clause-rule : goal.returns-clause-rule
returns-clause-rule c =
    let parser = c.value_parser.ensures.given in
    let same : parser.0 ≡ c.args.values = search rules in
    rw (c.default_value.ensures, c.value_parser.ensures.others, parser.1, c.action.ensures, c.value_name.ensures, c.long.ensures)
    (λ i. record (c.new.ensures.rule i) {
      long = Some c.args.name.now;
      action = Some Set;
      parser = Some (same i);
      value_names = 1;
      defaults = c.args.default.now ∷ [];
    })
