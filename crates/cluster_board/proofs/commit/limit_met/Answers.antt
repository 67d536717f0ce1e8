use Rattle.std.proofs.Common.{◌≡◌, ◌≤◌, ◌<◌, List, true, false, sym, ap, ◌∙◌, arith}
use Rattle.directory_rules.specs.State.{Letter}
use Rattle.directory_rules.specs.Mail.{has_room_for}
use Rattle.directory_rules.specs.Settings.{Settings}
use Rattle.cluster_board.proofs.Decision.{accepted, no_event_more, no_room}
use Rattle.cluster_board.proofs.commit.limit_met.Goals as goal

pub returns-then-accepted-events : goal.returns-then-accepted-events
returns-then-accepted-events g c =
    let events_are = ap (λ (s : Settings). s.events) c.settings.ensures in
    let most : c.args.world.now.settings.events ≤ c.args.world.now.accepted = omega (arith, c.if-accepted-events.true, c.accepted.ensures, c.events.ensures, events_are) in
    no_event_more c.args.world.now c.args.job.now c.requires.current most

pub returns-then-not-has_room_for : goal.returns-then-not-has_room_for
returns-then-not-has_room_for g c =
    let events_are = ap (λ (s : Settings). s.events) c.settings.ensures in
    let room : c.args.world.now.accepted < c.args.world.now.settings.events = omega (arith, c.if-accepted-events.false, c.accepted.ensures, c.events.ensures, events_are) in
    let crowded : has_room_for c.args.world.now c.deref.result.now ≡ false = grind arith in
    no_room c.args.world.now c.args.job.now c.args.plan.now c.requires.current c.requires.planned room
    (ap (λ (x : List Letter). has_room_for c.args.world.now x) (sym c.deref.ensures.value) ∙ crowded)

pub returns : goal.returns
returns g c =
    let events_are = ap (λ (s : Settings). s.events) c.settings.ensures in
    let room : c.args.world.now.accepted < c.args.world.now.settings.events = omega (arith, c.if-accepted-events.false, c.accepted.ensures, c.events.ensures, events_are) in
    let there : has_room_for c.args.world.now c.deref.result.now ≡ true = grind arith in
    accepted c.args.world.now c.args.job.now c.args.plan.now c.requires.current c.requires.planned room
    (ap (λ (x : List Letter). has_room_for c.args.world.now x) (sym c.deref.ensures.value) ∙ there)
