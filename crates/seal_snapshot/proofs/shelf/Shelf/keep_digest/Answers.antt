use Rattle.std.proofs.Common.{◌∙◌, ap, subst, get_or, List}
use Rattle.directory_rules.specs.State.{Snapshot}
use Rattle.seal_snapshot.specs.Shelf.{AreInOrder}
use Rattle.seal_snapshot.proofs.Searches.{digest_at}
use Rattle.seal_snapshot.proofs.shelf.Shelf.keep_digest.Goals as goal

pub keep_digest-requires : goal.keep_digest-requires
keep_digest-requires c =
    digest_at c.args.version c.args.range.now c.args.asker.now c.args.self.now c.in-Some.index c.index_mut.result.now c.args.digest
    (subst AreInOrder c.self.view_is c.self.invariant) c.in-Some.ensures.found
    (c.index_mut.ensures.value ∙ ap (λ (l : List Snapshot). get_or l c.in-Some.index c.index_mut.result.now) c.self.view_is)
    c.requires
