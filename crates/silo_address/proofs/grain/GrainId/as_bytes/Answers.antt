use Rattle.std.proofs.Common.{arith}
use Rattle.std.proofs.lemmas.Grind.{common_steps}
use Rattle.silo_address.proofs.grain.GrainId.as_bytes.Goals as goal

pub returns-clause-text : goal.returns-clause-text
returns-clause-text c = grind (arith, common_steps)

pub returns-clause-visible : goal.returns-clause-visible
returns-clause-visible c = grind (arith, common_steps)
