use Rattle.std.proofs.Common.{rules, sym}
use Rattle.directory_core.proofs.Made.{seeing}
use Rattle.directory_core.proofs.world.World.sees.Goals as goal

pub returns-then-not-is_seeable-clause-told : goal.returns-then-not-is_seeable-clause-told
returns-then-not-is_seeable-clause-told c = search rules

pub sight-requires-clause-newer : goal.sight-requires-clause-newer
sight-requires-clause-newer c = search rules

pub sight-requires-clause-sees : goal.sight-requires-clause-sees
sight-requires-clause-sees c = seeing c.args.self.now c.whole.ensures c.args.silo.now c.in-Some.node.now (sym c.in-Some.ensures)
