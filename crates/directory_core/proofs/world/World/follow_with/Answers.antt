use Rattle.std.proofs.Common.{◌≤◌, ◌<◌, sym, subst, ap, arith}
use Rattle.std.specs.Prelude.{IsOk}
use Rattle.directory_rules.specs.Settings.{Settings}
use Rattle.directory_rules.specs.Event.{Deliver}
use Rattle.directory_rules.specs.World.{accepted_as}
use Rattle.directory_node.specs.Follows.{Follows}
use Rattle.directory_core.specs.Delivery.{undelivered_number}
use Rattle.directory_core.specs.Whole.{LeavesWorld}
use Rattle.directory_core.proofs.Happenings.{full, has_room}
use Rattle.directory_core.proofs.world.World.follow_with.Goals as goal

pub returns-then-accepted-events-clause-told : goal.returns-then-accepted-events-clause-told
returns-then-accepted-events-clause-told c =
    let events_are = ap (λ (s : Settings). s.events) c.settings.ensures in
    let most : c.args.self.now.settings.events ≤ c.args.self.now.accepted = omega (arith, c.if-accepted-events.true, c.accepted.ensures, c.events.ensures, events_are) in
    full c.args.self.now (Deliver c.args.number) most

pub take_with-requires-clause-leaves : goal.take_with-requires-clause-leaves
take_with-requires-clause-leaves c =
    let events_are = ap (λ (s : Settings). s.events) c.settings.ensures in
    let room : c.args.self.now.accepted < c.args.self.now.settings.events = omega (arith, c.if-accepted-events.false, c.accepted.ensures, c.events.ensures, events_are) in
    subst LeavesWorld (has_room c.args.self.now (Deliver c.args.number) room) c.requires.leaves

pub returns-clause-told : goal.returns-clause-told
returns-clause-told c =
    let events_are = ap (λ (s : Settings). s.events) c.settings.ensures in
    let room : c.args.self.now.accepted < c.args.self.now.settings.events = omega (arith, c.if-accepted-events.false, c.accepted.ensures, c.events.ensures, events_are) in
    subst (λ h. Follows (accepted_as c.take_with.new.self) undelivered_number IsOk h c.take_with.result)
    (sym (has_room c.args.self.now (Deliver c.args.number) room)) c.take_with.ensures.told
