use Rattle.std.proofs.Common.{◌++◌, ◌∙◌, List, filter, not, sym, subst}
use Rattle.directory_rules.specs.Members.{is_dead_in}
use Rattle.directory_rules.specs.State.{Snapshot}
use Rattle.seal_snapshot.specs.Shelf.{AreInOrder}
use Rattle.seal_snapshot.proofs.Order.{in_order-kept}
use Rattle.seal_snapshot.proofs.shelf.Shelf.sight.Goals as goal

pub invariant_of-self : goal.invariant_of-self
invariant_of-self c =
    subst AreInOrder (sym (c.fill.ensures ∙ (λ i. filter (λ (s : Snapshot). not (is_dead_in c.args.view.now s.to))
    (c.replace-kept.ensures.value i).items ++ c.args.sealed.items)))
    (in_order-kept (λ (s : Snapshot). not (is_dead_in c.args.view.now s.to)) c.self.inside.snapshots.items c.args.sealed.items
    (subst (λ (l : List Snapshot). AreInOrder (l ++ c.args.sealed.items)) (sym c.self.view_is) c.requires.behind))
