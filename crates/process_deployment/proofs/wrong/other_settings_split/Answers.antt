use Rattle.process_deployment.proofs.Worked.{other_settings_split}
use Rattle.process_deployment.proofs.wrong.other_settings_split.Goals as goal

pub returns : goal.returns
returns c = other_settings_split
