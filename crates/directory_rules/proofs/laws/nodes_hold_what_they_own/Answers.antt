use Rattle.directory_rules.proofs.Reached.{nodes_hold_once, sights_of_runs}
use Rattle.directory_rules.proofs.laws.nodes_hold_what_they_own.Goals as goal

pub returns : goal.returns
returns c = record { always = nodes_hold_once; of_sights = sights_of_runs }
