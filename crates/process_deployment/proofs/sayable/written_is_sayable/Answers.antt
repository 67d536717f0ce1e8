use Rattle.process_deployment.proofs.SayableLetters.{written_is_sayable}
use Rattle.process_deployment.proofs.sayable.written_is_sayable.Goals as goal

pub returns : goal.returns
returns c = written_is_sayable
