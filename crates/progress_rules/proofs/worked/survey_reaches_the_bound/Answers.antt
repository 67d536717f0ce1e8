use Rattle.progress_rules.proofs.Computed.{survey_computed}
use Rattle.progress_rules.proofs.worked.survey_reaches_the_bound.Goals as goal

pub returns : goal.returns
returns c = survey_computed
