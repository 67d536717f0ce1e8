use Rattle.directory_rules.specs.EventModel.{event_of}
use Rattle.script_rules.specs.Script.{Happen}
use Rattle.console_threads.proofs.Posted.{event_performed, no_own, nothing_performed, posts_itself}
use Rattle.console_threads.proofs.driver.Driver.happen.Goals as goal

pub returns-in_ok-post-in_default : goal.returns-in_ok-post-in_default
returns-in_ok-post-in_default g c = λ all.
    let before = c.args.self.now in
    let after = c.post.new.self in
    event_performed g.L.Charter.settings (event_of c.args.event.now) c.in_ok-post-in_default.field-0 before.hand.seen after.hand.seen
    before.receipts.items after.receipts.items
    (λ world. posts_itself c.args.event.now world c.in_default.not-Deliver c.in_default.not-Lose)
    (c.in_ok-post-in_default.ensures.posted all)

-- the workers' own are passed over
pub returns-in-Deliver : goal.returns-in-Deliver
returns-in-Deliver g c = λ all.
    let before = c.args.self.now in
    nothing_performed g.L.Charter.settings (Happen (event_of c.args.event.now)) before.hand.seen before.receipts.items
    (no_own c.args.event.now c.in-Deliver.is)

pub returns-in-Deliver-2 : goal.returns-in-Deliver-2
returns-in-Deliver-2 g c = λ all.
    let before = c.args.self.now in
    nothing_performed g.L.Charter.settings (Happen (event_of c.args.event.now)) before.hand.seen before.receipts.items
    (no_own c.args.event.now c.in-Deliver.is)
