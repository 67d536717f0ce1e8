use Rattle.std.proofs.Common.{rules, ◌≤◌, ◌<◌, sym, subst, ap, arith}
use Rattle.directory_rules.specs.State.{World}
use Rattle.directory_rules.specs.World.{accepted_as}
use Rattle.directory_rules.specs.EventModel.{event_of}
use Rattle.directory_node.specs.Follows.{Follows}
use Rattle.directory_core.specs.Applied.{excused}
use Rattle.directory_core.specs.Numbers.{event_refusal_number}
use Rattle.directory_core.specs.Whole.{LeavesWorld}
use Rattle.directory_core.proofs.Happenings.{full, has_room}
use Rattle.directory_core.proofs.world.World.follow.Goals as goal

pub returns-then-self-events-clause-told : goal.returns-then-self-events-clause-told
returns-then-self-events-clause-told c =
    let accepted_is = ap (λ (w : World). w.accepted) c.self.view_is in
    let events_are = ap (λ (w : World). w.settings.events) c.self.view_is in
    let most : c.args.self.now.settings.events ≤ c.args.self.now.accepted = omega (arith, c.if-self-events.true, accepted_is, c.events.ensures, events_are) in
    full c.args.self.now (event_of c.args.event.now) most

pub returns-clause-told : goal.returns-clause-told
returns-clause-told c =
    let accepted_is = ap (λ (w : World). w.accepted) c.self.view_is in
    let events_are = ap (λ (w : World). w.settings.events) c.self.view_is in
    let room : c.args.self.now.accepted < c.args.self.now.settings.events = omega (arith, c.if-self-events.false, accepted_is, c.events.ensures, events_are) in
    subst (λ h. Follows (accepted_as c.attempt.new.self) event_refusal_number (excused c.args.event.now) h c.attempt.result)
    (sym (has_room c.args.self.now (event_of c.args.event.now) room)) c.attempt.ensures.told

pub returns-then-self-events-clause-unchanged : goal.returns-then-self-events-clause-unchanged
returns-then-self-events-clause-unchanged c = search rules

pub attempt-requires-clause-leaves : goal.attempt-requires-clause-leaves
attempt-requires-clause-leaves c =
    let accepted_is = ap (λ (w : World). w.accepted) c.self.view_is in
    let events_are = ap (λ (w : World). w.settings.events) c.self.view_is in
    let room : c.args.self.now.accepted < c.args.self.now.settings.events = omega (arith, c.if-self-events.false, accepted_is, c.events.ensures, events_are) in
    subst LeavesWorld (has_room c.args.self.now (event_of c.args.event.now) room) c.requires.leaves
