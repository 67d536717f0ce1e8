use Rattle.directory_rules.specs.EventModel.{event_of}
use Rattle.silo_threads.proofs.PostedEvents.{goes_on, last, left, received, refused}
use Rattle.silo_threads.proofs.run.post_to.Goals as goal

pub returns-clause-receipt : goal.returns-clause-receipt
returns-clause-receipt g c =
    let post = c.post-posted in
    received g.L.Charter.settings (event_of c.args.event.now) c.args.hand.now.seen post.new.hand.seen c.args.board.now post.new.self
    post.ensures.behind post.ensures.seen c.journaled.ensures c.journaled-2.ensures
    post.result post.ensures.told post.ensures.event post.ensures.number post.ensures.journaled

pub returns-clause-last : goal.returns-clause-last
returns-clause-last g c =
    let post = c.post-posted in
    last g.L.Charter.settings (event_of c.args.event.now) c.args.hand.now.seen post.new.hand.seen c.args.board.now post.new.self
    post.ensures.behind post.ensures.seen c.journaled.ensures c.journaled-2.ensures
    post.result post.ensures.number post.ensures.journaled

pub returns-clause-seen : goal.returns-clause-seen
returns-clause-seen g c =
    let post = c.post-posted in
    goes_on g.L.Charter.settings (event_of c.args.event.now) c.args.hand.now.seen post.new.hand.seen c.args.board.now post.new.self
    post.ensures.behind post.ensures.seen c.journaled.ensures c.journaled-2.ensures
    post.result post.ensures.journaled post.ensures.unchanged

pub returns-clause-left : goal.returns-clause-left
returns-clause-left g c =
    let post = c.post-posted in
    left g.L.Charter.settings (event_of c.args.event.now) c.args.hand.now.seen post.new.hand.seen c.args.board.now post.new.self
    post.ensures.behind post.ensures.seen c.journaled.ensures c.journaled-2.ensures

pub returns-clause-refused : goal.returns-clause-refused
returns-clause-refused g c =
    let post = c.post-posted in
    refused g.L.Charter.settings (event_of c.args.event.now) c.args.hand.now.seen post.new.hand.seen c.args.board.now post.new.self
    post.ensures.behind post.ensures.seen c.journaled.ensures c.journaled-2.ensures
    post.result post.ensures.told post.ensures.numbered post.ensures.unchanged
