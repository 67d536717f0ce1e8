use Rattle.std.proofs.Common.{◌+◌, Bool, drop, map, subst}
use Rattle.directory_rules.specs.EventModel.{event_of}
use Rattle.console_threads.specs.Driven.{IsPosted}
use Rattle.console_threads.proofs.SoFar.{nothing_yet}
use Rattle.console_threads.proofs.Posted.{Posted, all_accepted, none_left, one_accepted, one_left, one_refused}
use Rattle.console_threads.proofs.driver.Driver.post_all.Goals as goal

pub loop-event-preserved : goal.loop-event-preserved
loop-event-preserved g c = λ all.
    let events = c.args.events.now in
    let index = c.loop-event.event-index in
    let event = c.event-item.result in
    let before = c.args.self.now in
    let now = c.loop-event.self in
    let after = c.post.new.self in
    one_accepted g.L.Charter.settings (map event_of events) before.hand.seen before.receipts.items (map event_of (drop index events))
    (map event_of (drop (index + 1) events)) (event_of event)
    now.hand.seen after.hand.seen now.receipts.items after.receipts.items
    (one_left event_of events index event c.loop-event-test.true c.event-item.is)
    (c.loop-event.invariant (c.in_ok-post.ensures.lacking all))
    (subst (λ (accepted : Bool). IsPosted g.L.Charter.settings (event_of event) accepted now.hand.seen after.hand.seen now.receipts.items
    after.receipts.items) c.if-not-branch.false
    (c.in_ok-post.ensures.posted all))

pub returns-then-not-branch : goal.returns-then-not-branch
returns-then-not-branch g c = λ all.
    let events = c.args.events.now in
    let index = c.loop-event.event-index in
    let event = c.event-item.result in
    let before = c.args.self.now in
    let now = c.loop-event.self in
    let after = c.post.new.self in
    one_refused g.L.Charter.settings (map event_of events) before.hand.seen before.receipts.items (map event_of (drop index events))
    (map event_of (drop (index + 1) events)) (event_of event)
    now.hand.seen after.hand.seen now.receipts.items after.receipts.items
    (one_left event_of events index event c.loop-event-test.true c.event-item.is)
    (c.loop-event.invariant (c.in_ok-post.ensures.lacking all))
    (subst (λ (accepted : Bool). IsPosted g.L.Charter.settings (event_of event) accepted now.hand.seen after.hand.seen now.receipts.items
    after.receipts.items) c.if-not-branch.true
    (c.in_ok-post.ensures.posted all))

pub returns : goal.returns
returns g c = λ all.
    let events = c.args.events.now in
    let index = c.loop-event.event-index in
    let before = c.args.self.now in
    let now = c.loop-event.self in
    all_accepted g.L.Charter.settings (map event_of events) (map event_of (drop index events)) before.hand.seen now.hand.seen
    before.receipts.items now.receipts.items
    (none_left event_of events index c.loop-event-test.false) (c.loop-event.invariant all)

pub loop-event-init : goal.loop-event-init
loop-event-init g c =
    λ all. nothing_yet (Posted g.L.Charter.settings) (map event_of c.args.events.now) c.args.self.now.hand.seen
    c.args.self.now.receipts.items
