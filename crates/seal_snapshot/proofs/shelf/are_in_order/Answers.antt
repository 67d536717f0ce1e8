use Rattle.std.proofs.Common.{◌≡◌, ◌∙◌, ◌-◌, ap, sym, refl, true, false, get_or, arith}
use Rattle.std.proofs.lemmas.List.{get_or_default}
use Rattle.directory_rules.specs.State.{Snapshot}
use Rattle.seal_snapshot.specs.Shelf.{comes_before}
use Rattle.seal_snapshot.proofs.InOrder.{in_order-from_next}
use Rattle.seal_snapshot.proofs.Order.{ordered_at}
use Rattle.seal_snapshot.proofs.shelf.are_in_order.Goals as goal

pub returns-then-not-comes_before : goal.returns-then-not-comes_before
returns-then-not-comes_before c = (
  λ never. let e : false ≡ true = never in cc,
  λ order.
      let one : Snapshot = c.index-snapshots-index.result in
      let other : Snapshot = c.index-snapshots-index-in-loop-index.result in
      let before : comes_before one other ≡ true =
      ap (λ s. comes_before s other) c.index-snapshots-index.is
      ∙ ap (λ s. comes_before (get_or c.args.snapshots.now (c.loop-index.index - 1) one) s)
      (c.index-snapshots-index-in-loop-index.is ∙ get_or_default c.args.snapshots.now c.loop-index.index other one (omega arith))
      ∙ ordered_at c.args.snapshots.now (c.loop-index.index - 1) c.loop-index.index one order (omega arith) (omega arith) in
      sym c.if-not-comes_before.true ∙ c.comes_before.ensures ∙ before,
)

pub returns : goal.returns
returns c = (λ _. in_order-from_next c.args.snapshots.now (λ k d within. c.loop-index.invariant k d (omega arith)), λ _. refl)
