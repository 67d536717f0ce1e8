use Rattle.std.proofs.Common.{◌∙◌, subst, sym}
use Rattle.silo_threads.specs.Cluster.{ClusterValue}
use Rattle.silo_threads.specs.Tallied.{HaveEnded}
use Rattle.silo_threads.proofs.Tallies.{unless_lost}
use Rattle.silo_threads.proofs.cluster.Cluster.end.Goals as goal

-- nothing was lost
pub returns-clause-endings : goal.returns-clause-endings
returns-clause-endings g c =
    let taken = c.take_in-taken in
    subst (λ (v : ClusterValue). HaveEnded g.L.Charter.settings taken.new.all.hand.seen v.workers taken.new.all.endings.items)
    c.self.view_is
    (unless_lost taken.result _ taken.ensures.endings (sym c.is_err.ensures.value ∙ c.if-is_err.false))
