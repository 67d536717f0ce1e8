use Rattle.deployment_headline.proofs.Worked.{another_view_is_told}
use Rattle.deployment_headline.proofs.wrong.another_view_is_told.Goals as goal

pub returns : goal.returns
returns c = another_view_is_told
