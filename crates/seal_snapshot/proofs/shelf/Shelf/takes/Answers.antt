use Rattle.std.proofs.Common.{◌≡◌, ◌∙◌, sym, subst, true, false, List}
use Rattle.directory_rules.specs.State.{Snapshot}
use Rattle.seal_snapshot.specs.Shelf.{AreInOrder, Meets}
use Rattle.seal_snapshot.proofs.InOrder.{in_order-behind, in_order-joined, meets-from_order}
use Rattle.seal_snapshot.proofs.shelf.Shelf.takes.Goals as goal

pub returns-then-meets : goal.returns-then-meets
returns-then-meets c =
    let meets : Meets c.args.self.now c.args.sealed.now =
    subst (λ (l : List Snapshot). Meets l c.args.sealed.now) (c.deref.ensures.value ∙ c.self.view_is) (c.meets.ensures.0 c.if-meets.true) in (
      λ rest. in_order-joined c.args.self.now c.args.sealed.now (subst AreInOrder c.self.view_is c.self.invariant)
          (c.are_in_order.ensures.0 rest) meets,
      λ joined. c.are_in_order.ensures.1 (in_order-behind c.args.self.now c.args.sealed.now joined),
    )

pub returns-else-meets : goal.returns-else-meets
returns-else-meets c = (
  λ holds. let e : true ≡ false = sym holds ∙ c.if-meets.false in cc,
  λ joined. c.meets.ensures.1
      (subst (λ (l : List Snapshot). Meets l c.args.sealed.now) (sym (c.deref.ensures.value ∙ c.self.view_is))
      (meets-from_order c.args.self.now c.args.sealed.now joined)),
)
