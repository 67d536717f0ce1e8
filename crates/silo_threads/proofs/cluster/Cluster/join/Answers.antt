use Rattle.std.proofs.Common.{◌≡◌, ◌∙◌, ℕ, List, ap, subst, sym}
use Rattle.silo_address.specs.Silo.{Silo}
use Rattle.directory_rules.specs.EventModel.{event_of}
use Rattle.cluster_journal.specs.Entry.{EntryValue}
use Rattle.cluster_journal.specs.Journal.{world_of}
use Rattle.silo_threads.specs.Cluster.{ClusterValue}
use Rattle.silo_threads.specs.Followed.{HasJoined, IsToShow, LacksThread, with_worker}
use Rattle.silo_threads.proofs.Rings.{joined, unstarted}
use Rattle.silo_threads.proofs.cluster.Cluster.join.Goals.{in-Ok-start, in-Err}
use Rattle.silo_threads.proofs.cluster.Cluster.join.Goals as goal

-- the worker was started, or wasn't
pub returns-clause-followed : goal.returns-clause-followed
returns-clause-followed g c =
    let settings = g.L.Charter.settings in
    let inside = c.self.inside in
    let before = c.args.self.now in
    let posted = c.in_ok-posted in
    let known = c.post_change.new.hand.seen in
    let workers = c.start.new.workers.items in
    let desk = c.in-Ok.desk.silo in
    let desk_is : desk ≡ c.args.silo = c.in-Ok.ensures in
    elim c.match-start.branch as (λ _. HasJoined (world_of settings c.start.new.hand.seen) c.args.silo posted.posted.receipt before
    c.match-start.self c.match-start.lack) [
      | in-Ok-start w ↦
          let started : ClusterValue = record { workers = workers; published = inside.publisher } in
          let more : workers ≡ with_worker inside.workers.items c.args.silo =
          w.in-Ok-start.ensures.one ∙ (ap (λ (l : List Silo). with_worker l desk) c.reserve.ensures.items
          ∙ ap (λ (s : Silo). with_worker inside.workers.items s) desk_is) in
          let start : started ≡ record before { workers = with_worker before.workers c.args.silo } =
          ap (λ (l : List Silo). let v : ClusterValue = record { workers = l; published = inside.publisher } in v) more
          ∙ ap (λ (v : ClusterValue). let after : ClusterValue = record v { workers = with_worker v.workers c.args.silo } in after)
          c.self.view_is in
          let publish = w.publish in
          let left = subst (λ (n : ℕ). IsToShow (world_of settings known) n posted.posted.newest)
          (c.version-published.ensures ∙ ap (λ (v : ClusterValue). v.published.last.version) c.self.view_is) posted.ensures.left in
          subst (λ (l : List EntryValue). HasJoined (world_of settings l) c.args.silo posted.posted.receipt before c.match-start.self
          c.match-start.lack) (sym c.start.ensures.seen)
          (subst (λ (v : ClusterValue). HasJoined (world_of settings known) c.args.silo posted.posted.receipt before v c.match-start.lack)
          (sym w.self-is)
          (joined settings c.args.hand.now.seen known (event_of c.args.event.now) posted.posted.receipt posted.ensures.receipt
          posted.ensures.last
          posted.posted.newest c.args.silo before started publish.new.self left publish.result c.match-start.lack
          (w.lack-is ∙ w.err-lack.ensures.value) start
          publish.ensures.workers publish.ensures.published publish.ensures.unchanged publish.ensures.lack publish.ensures.nothing))
      | in-Err w ↦
          let lacks : LacksThread c.args.silo before.workers workers =
          subst (λ (s : Silo). LacksThread s before.workers workers) desk_is
          (subst (λ (l : List Silo). LacksThread desk l workers)
          (c.reserve.ensures.items ∙ ap (λ (v : ClusterValue). v.workers) c.self.view_is) w.in-Err.ensures.thread) in
          let after_is = w.self-is ∙ ap (λ (v : ClusterValue). let after : ClusterValue = record v { workers = workers } in after) c.self.view_is in
          unstarted (world_of settings c.start.new.hand.seen) c.args.silo posted.posted.receipt before c.match-start.self workers
          c.match-start.lack w.in-Err.lack w.lack-is w.in-Err.ensures.lack lacks after_is
    ]
