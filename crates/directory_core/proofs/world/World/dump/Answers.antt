use Rattle.std.proofs.Common.{rules}
use Rattle.dump_rules.specs.Dump.{dump_of}
use Rattle.directory_core.proofs.world.World.dump.Goals as goal

pub returns-clause-told : goal.returns-clause-told
unfolding dump_of
returns-clause-told c = search rules
