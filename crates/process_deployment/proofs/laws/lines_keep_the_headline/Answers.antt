use Rattle.process_deployment.proofs.Following.{lines_keep_the_headline}
use Rattle.process_deployment.proofs.Themselves.{written_read_as_themselves}
use Rattle.process_deployment.proofs.laws.lines_keep_the_headline.Goals as goal

pub returns : goal.returns
returns c = lines_keep_the_headline written_read_as_themselves
