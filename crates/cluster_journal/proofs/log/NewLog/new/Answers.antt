use Rattle.cluster_journal.proofs.LogSteps.{begins}
use Rattle.cluster_journal.proofs.log.NewLog.new.Goals as goal

pub of_words-requires : goal.of_words-requires
of_words-requires g c = begins
