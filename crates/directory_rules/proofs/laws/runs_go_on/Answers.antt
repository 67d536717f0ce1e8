use Rattle.directory_rules.proofs.Runs.{refused_run, accepted_run}
use Rattle.directory_rules.proofs.laws.runs_go_on.Goals as goal

pub returns : goal.returns
returns c = record { refused = refused_run; accepted = accepted_run }
