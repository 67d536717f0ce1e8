use Rattle.std.proofs.Common.{arith}
use Rattle.std.proofs.lemmas.Grind.{common_steps}
use Rattle.silo_address.proofs.words.word_before.Goals as goal

pub returns : goal.returns
returns c = grind (arith, common_steps)
