use Rattle.std.proofs.Common.{◌≡◌, drop, false, map}
use Rattle.directory_rules.specs.EventModel.{event_of}
use Rattle.console_threads.proofs.Posted.{Posted}
use Rattle.console_threads.proofs.SoFar.{PutsSoFar}
use Rattle.console_threads.proofs.driver.Driver.post_all.Given as goal

-- unless something lacks, the receipts so far are those of the events that were gone through
abbrev pub invariant-loop-event : goal.invariant-loop-event
invariant-loop-event g l =
    l.self.lacks ≡ false
    → PutsSoFar (Posted g.L.Charter.settings) (map event_of l.events) (map event_of (drop l.event-index l.events)) l.fn.self.hand.seen
    l.self.hand.seen l.fn.self.receipts.items l.self.receipts.items
