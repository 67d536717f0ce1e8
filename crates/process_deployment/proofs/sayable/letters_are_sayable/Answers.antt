use Rattle.process_deployment.proofs.SayableLetters.{letters_are_sayable}
use Rattle.process_deployment.proofs.sayable.letters_are_sayable.Goals as goal

pub returns : goal.returns
returns c = letters_are_sayable
