use Rattle.std.proofs.Common.{◌≡◌, ◌∙◌, ◌+◌, arith, length, subst, sym}
use Rattle.silo_address.specs.Silo.{Silo}
use Rattle.cluster_journal.proofs.Beginnings.{prefix_then}
use Rattle.silo_workers.specs.Delivered.{AreDeliveriesTo}
use Rattle.silo_workers.specs.Endings.{Ends}
use Rattle.silo_threads.proofs.Tallies.{one_ended, one_joined, one_more, unless_lost}
use Rattle.silo_threads.proofs.end.take_in.Goals as goal

-- one worker was joined: what it had is put to the others', unless that was lost
pub loop-worker-preserved : goal.loop-worker-preserved
loop-worker-preserved g c =
    let settings = g.L.Charter.settings in
    let silos = c.args.workers.items in
    let left = c.loop-worker.workers.items in
    let now = c.pop.new.self.items in
    let silo = c.in-Some.worker in
    let popped = c.in-Some.ensures.items in
    let whole = c.whole-hand in
    let hand = whole.result.0 in
    let put = whole.result.1.items in
    let ending = whole.result.2 in
    let before = c.loop-worker.all in
    let after = c.take_one.new.all in
    let so_far = c.loop-worker.invariant in
    let one = c.take_one.ensures in
    let its = c.worked_by-worked.ensures in
    let counted : after.hand.share.amount ≡ before.hand.share.amount + length put =
    let amount = one.amount in let each = whole.ensures.counted in let many = whole.result.1.ok in omega (amount, each, many, arith) in
    let well = sym c.is_err.ensures.value ∙ c.if-is_err.false in
    record {
      parts =
          let parts = so_far.parts in let part = one.parts in let single = whole.ensures.part in let fewer = c.in-Some.ensures.cases in
          omega (parts, part, single, fewer, arith);
      left = one_joined silos left now silo popped so_far.left;
      seen = prefix_then c.args.all.now.hand.seen before.hand.seen after.hand.seen so_far.seen one.mine;
      receipts = λ none_lost.
          one_more settings silos left now silo popped so_far.left before.hand.seen after.hand.seen hand.seen one.mine one.its
          c.args.all.now.receipts.items before.receipts.items put after.receipts.items c.args.all.now.hand.share.amount
          before.hand.share.amount after.hand.share.amount
          (subst (λ (s : Silo). AreDeliveriesTo settings s hand.seen put) its whole.ensures.delivered)
          (unless_lost c.take_one.result _ one.receipts well) counted (so_far.receipts none_lost);
      endings = λ none_lost.
          one_ended settings silos left now silo popped so_far.left before.hand.seen after.hand.seen hand.seen one.mine one.its
          before.endings.items after.endings.items ending
          (unless_lost c.take_one.result _ one.endings well)
          (subst (λ (s : Silo). Ends settings s hand.seen ending) its whole.ensures.ended) (so_far.endings none_lost);
    }
