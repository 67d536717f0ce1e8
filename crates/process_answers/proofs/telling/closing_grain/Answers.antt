use Rattle.directory_rules.specs.Host.{closing_under}
use Rattle.process_answers.proofs.Tellings.{grain_of_entry}
use Rattle.process_answers.proofs.telling.closing_grain.Goals as goal

pub returns : goal.returns
returns c = grain_of_entry c.args.host.now (closing_under c.args.host.now c.args.number) c.in_ok-entry.entry c.in_ok-entry.ensures
