use Rattle.std.proofs.Common.{◌∙◌, ap, sym}
use Rattle.range_recovery.specs.Silos.{AwaitedValue, has_reported}
use Rattle.range_recovery.proofs.Reported.{has_reported-at, has_reported-stranger}
use Rattle.range_recovery.proofs.silos.AwaitedSilos.has_reported.Goals as goal

pub returns-in-Some : goal.returns-in-Some
returns-in-Some c =
    let stands = rw c.deref.ensures.value at c.in-Some.ensures.found in
    sym (ap (λ (v : AwaitedValue). has_reported v c.args.silo.now) (sym c.self.view_is)
    ∙ has_reported-at c.self.inside.silos.items c.self.invariant.by_address c.args.silo.now c.in-Some.index c.index.result.now stands
    c.index.ensures)

pub returns-in-None : goal.returns-in-None
returns-in-None c =
    let absent = rw c.deref.ensures.value at c.in-None.ensures.absent in
    sym (ap (λ (v : AwaitedValue). has_reported v c.args.silo.now) (sym c.self.view_is)
    ∙ has_reported-stranger c.self.inside.silos.items c.args.silo.now absent)
