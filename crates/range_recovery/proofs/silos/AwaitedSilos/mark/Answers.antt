use Rattle.std.proofs.Common.{◌≡◌, ◌-◌, List, Some, None, false, ◌∙◌, ap, sym, subst}
use Rattle.range_recovery.specs.declared.awaited.Awaited.{Awaited}
use Rattle.range_recovery.specs.Silos.{AwaitedValue, IsCounted, has_reported, marked}
use Rattle.range_recovery.proofs.Marks.{set-mark}
use Rattle.range_recovery.proofs.Told.{told, is_marked}
use Rattle.range_recovery.proofs.Reported.{has_reported-stranger}
use Rattle.range_recovery.proofs.silos.AwaitedSilos.mark.Goals as goal

pub invariant_of-self : goal.invariant_of-self
invariant_of-self c =
    let stands = rw c.deref.ensures.value at c.in-Some.ensures.found in
    let waits : has_reported (told c.self.inside.silos.items) c.args.silo.now ≡ Some false = ap (λ (v : AwaitedValue). has_reported v c.args.silo.now) c.self.view_is ∙ c.requires in
    let is = is_marked c.self.inside.silos.items c.self.inside.missing c.self.invariant c.args.silo.now c.in-Some.index stands waits in
    let marking = set-mark c.self.inside.silos.items c.in-Some.index c.index_mut.result.now (sym c.index_mut.ensures.value) in
    subst (λ (l : List Awaited). IsCounted l (c.self.inside.missing - 1)) (sym marking) is.kept

pub returns-in-Some : goal.returns-in-Some
returns-in-Some c =
    let stands = rw c.deref.ensures.value at c.in-Some.ensures.found in
    let waits : has_reported (told c.self.inside.silos.items) c.args.silo.now ≡ Some false = ap (λ (v : AwaitedValue). has_reported v c.args.silo.now) c.self.view_is ∙ c.requires in
    let is = is_marked c.self.inside.silos.items c.self.inside.missing c.self.invariant c.args.silo.now c.in-Some.index stands waits in
    let marking = set-mark c.self.inside.silos.items c.in-Some.index c.index_mut.result.now (sym c.index_mut.ensures.value) in
    ap told marking ∙ is.is ∙ ap (λ (v : AwaitedValue). marked v c.args.silo.now) c.self.view_is

pub returns-in_default : goal.returns-in_default
returns-in_default c =
    let absent = rw c.deref.ensures.value at c.in_default.ensures.absent in
    let never : None ≡ Some false =
    sym (has_reported-stranger c.self.inside.silos.items c.args.silo.now absent)
    ∙ ap (λ (v : AwaitedValue). has_reported v c.args.silo.now) c.self.view_is ∙ c.requires in
    cc
