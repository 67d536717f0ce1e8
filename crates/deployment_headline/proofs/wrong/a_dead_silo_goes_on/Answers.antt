use Rattle.deployment_headline.proofs.Worked.{a_dead_silo_goes_on}
use Rattle.deployment_headline.proofs.wrong.a_dead_silo_goes_on.Goals as goal

pub returns : goal.returns
returns c = a_dead_silo_goes_on
