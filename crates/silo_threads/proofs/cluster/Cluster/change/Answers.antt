use Rattle.std.proofs.Common.{◌∙◌, ℕ, ap, subst}
use Rattle.directory_rules.specs.EventModel.{event_of}
use Rattle.cluster_journal.specs.Journal.{world_of}
use Rattle.silo_threads.specs.Cluster.{ClusterValue}
use Rattle.silo_threads.specs.Followed.{IsToShow}
use Rattle.silo_threads.proofs.Rings.{changed}
use Rattle.silo_threads.proofs.cluster.Cluster.change.Goals as goal

pub returns-clause-followed : goal.returns-clause-followed
returns-clause-followed g c =
    let posted = c.in_ok-posted in
    let publish = c.publish in
    let left = subst (λ (n : ℕ). IsToShow (world_of g.L.Charter.settings c.post_change.new.hand.seen) n posted.posted.newest)
    (c.version-published.ensures ∙ ap (λ (v : ClusterValue). v.published.last.version) c.self.view_is) posted.ensures.left in
    changed g.L.Charter.settings c.args.hand.now.seen c.post_change.new.hand.seen (event_of c.args.event.now) posted.posted.receipt
    posted.ensures.receipt posted.ensures.last
    posted.posted.newest c.args.self.now publish.new.self left publish.result c.err-lack.result c.err-lack.ensures.value
    publish.ensures.workers publish.ensures.published publish.ensures.unchanged publish.ensures.lack publish.ensures.nothing
