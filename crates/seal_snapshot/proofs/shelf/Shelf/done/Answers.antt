use Rattle.std.proofs.Common.{◌≡◌, ◌∙◌, ap, sym, subst, not, List}
use Rattle.std.specs.List.{remove}
use Rattle.directory_rules.specs.State.{Snapshot}
use Rattle.directory_rules.specs.Snapshot.{is_snapshot, shelf_without}
use Rattle.seal_snapshot.specs.Shelf.{AreInOrder}
use Rattle.seal_snapshot.proofs.Searches.{has_none, without_at, without_none}
use Rattle.seal_snapshot.proofs.Order.{in_order-filter}
use Rattle.seal_snapshot.proofs.shelf.Shelf.done.Goals as goal

pub returns-in-Some-clause-deleted : goal.returns-in-Some-clause-deleted
returns-in-Some-clause-deleted c =
    c.remove.ensures.items ∙ ap (λ (l : List Snapshot). remove l c.in-Some.index) c.self.view_is
    ∙ sym (without_at c.args.version c.args.range.now c.args.asker.now c.args.self.now c.in-Some.index
    (subst AreInOrder c.self.view_is c.self.invariant) c.in-Some.ensures.found.within c.in-Some.ensures.found.passes)

pub invariant_of-self : goal.invariant_of-self
invariant_of-self c =
    let after : c.remove.new.self.items ≡ shelf_without c.args.self.now c.args.version c.args.range.now c.args.asker.now =
    c.remove.ensures.items ∙ ap (λ (l : List Snapshot). remove l c.in-Some.index) c.self.view_is
    ∙ sym (without_at c.args.version c.args.range.now c.args.asker.now c.args.self.now c.in-Some.index
    (subst AreInOrder c.self.view_is c.self.invariant) c.in-Some.ensures.found.within c.in-Some.ensures.found.passes) in
    subst AreInOrder (sym after)
    (in_order-filter (λ s. not (is_snapshot c.args.version c.args.range.now c.args.asker.now s)) c.args.self.now
    (subst AreInOrder c.self.view_is c.self.invariant))

pub returns-in-None-clause-answered : goal.returns-in-None-clause-answered
returns-in-None-clause-answered c = sym (has_none c.args.version c.args.range.now c.args.asker.now c.args.self.now c.in-None.ensures.absent)

pub returns-in-None-clause-deleted : goal.returns-in-None-clause-deleted
returns-in-None-clause-deleted c =
    sym (without_none c.args.version c.args.range.now c.args.asker.now c.args.self.now c.in-None.ensures.absent)
