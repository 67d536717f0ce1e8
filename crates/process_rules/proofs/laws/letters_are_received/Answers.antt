use Rattle.process_rules.proofs.Letters.{letter_received}
use Rattle.process_rules.proofs.laws.letters_are_received.Goals as goal

pub returns : goal.returns
returns c = letter_received
