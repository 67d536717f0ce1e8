use Rattle.std.proofs.Common.{◌∙◌, List, ap, map}
use Rattle.directory_rules.specs.declared.event.Event.{Event}
use Rattle.directory_rules.specs.EventModel.{event_of}
use Rattle.script_rules.specs.Script.{Sync}
use Rattle.console_threads.proofs.Posted.{performed, where_well}
use Rattle.console_threads.proofs.driver.Driver.sync.Goals as goal

-- the sights that silos lack in the world of what was seen then
pub returns : goal.returns
returns g c =
    let before = c.args.self.now in
    let known = c.sights.new.hand.seen in
    let after = c.post_all.new.self in
    where_well c.post_all.result (λ posted lacking.
    performed g.L.Charter.settings Sync (map event_of c.deref.result.now) before.hand.seen known after.hand.seen before.receipts.items
    after.receipts.items
    c.in_ok-sights.ensures.seen (ap (λ (l : List Event). map event_of l) c.deref.ensures.value ∙ c.in_ok-sights.ensures.sights)
    (posted lacking)) c.post_all.ensures
