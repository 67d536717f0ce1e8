use Rattle.directory_rules.specs.Host.{asking_under}
use Rattle.process_answers.proofs.Tellings.{grain_of_entry}
use Rattle.process_answers.proofs.telling.asking_grain.Goals as goal

pub returns : goal.returns
returns c = grain_of_entry c.args.host.now (asking_under c.args.host.now c.args.number) c.in_ok-entry.entry c.in_ok-entry.ensures
