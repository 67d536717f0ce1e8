use Rattle.std.proofs.Common.{rules}
use Rattle.hash_ring.proofs.ring.Ring.anew.Goals as goal

pub returns-in-Ok-clause-missing : goal.returns-in-Ok-clause-missing
returns-in-Ok-clause-missing c = search rules

pub returns-in-Err-clause-missing : goal.returns-in-Err-clause-missing
returns-in-Err-clause-missing c = search rules
