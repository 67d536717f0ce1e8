use Rattle.std.proofs.Common.{◌≡◌, ◌∙◌, ap, sym, subst, true, false, get_or, List}
use Rattle.std.specs.List.Sorted.{IsPartitionPoint}
use Rattle.std.proofs.lemmas.List.{get_or_default}
use Rattle.directory_rules.specs.State.{Snapshot}
use Rattle.directory_rules.specs.Snapshot.{is_snapshot}
use Rattle.seal_snapshot.specs.Shelf.{AreInOrder, is_before}
use Rattle.seal_snapshot.proofs.Searches.{nobody_there}
use Rattle.seal_snapshot.proofs.shelf.Shelf.index_of.Goals as goal

pub returns-then-not-is_for-clause-absent : goal.returns-then-not-is_for-clause-absent
returns-then-not-is_for-clause-absent c =
    let split = subst (λ (l : List Snapshot). IsPartitionPoint (λ s. is_before c.args.version c.start.result s ≡ true) (λ s. is_before c.args.version c.start.result s ≡ false) l c.first_from-index.result)
    (c.deref.ensures.value ∙ c.self.view_is) c.first_from-index.ensures in
    let at = subst (λ start. IsPartitionPoint (λ s. is_before c.args.version start s ≡ true) (λ s. is_before c.args.version start s ≡ false) c.args.self.now c.first_from-index.result) c.start.ensures split in
    let here : c.index.result.now ≡ get_or c.args.self.now c.first_from-index.result c.index.result.now =
    c.index.ensures ∙ ap (λ (l : List Snapshot). get_or l c.first_from-index.result c.index.result.now) c.self.view_is in
    let fails : is_snapshot c.args.version c.args.range.now c.args.asker.now c.index.result.now ≡ false = sym c.is_for.ensures ∙ c.if-not-is_for.true in
    nobody_there c.args.version c.args.range.now c.args.asker.now c.args.self.now c.first_from-index.result
    (subst AreInOrder c.self.view_is c.self.invariant) at
    (λ d within. ap (is_snapshot c.args.version c.args.range.now c.args.asker.now)
    (get_or_default c.args.self.now c.first_from-index.result d c.index.result.now within ∙ sym here) ∙ fails)
