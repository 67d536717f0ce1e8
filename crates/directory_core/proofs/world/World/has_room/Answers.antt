use Rattle.std.proofs.Common.{rules, ◌≤◌, subst}
use Rattle.directory_core.specs.Whole.{IsWorld}
use Rattle.directory_core.proofs.Made.{mail_limited}
use Rattle.directory_core.proofs.world.World.has_room.Goals as goal

pub overflow_sub-result : goal.overflow_sub-result
overflow_sub-result c =
    let limited : c.args.self.now.sent ≤ c.args.self.now.settings.letters = mail_limited c.args.self.now (subst IsWorld c.self.view_is c.self.invariant.world) in
    search rules

pub returns : goal.returns
returns c =
    let limited : c.args.self.now.sent ≤ c.args.self.now.settings.letters = mail_limited c.args.self.now (subst IsWorld c.self.view_is c.self.invariant.world) in
    search rules
