use Rattle.std.proofs.Common.{◌≤◌, sym, subst, List}
use Rattle.std.specs.Prelude.{All}
use Rattle.directory_rules.specs.State.{Node, Snapshot}
use Rattle.seal_snapshot.specs.Shelf.{IsDigestFor}
use Rattle.directory_node.proofs.node.Node.keep_digest.Goals as goal

pub keep_digest-requires : goal.keep_digest-requires
keep_digest-requires c =
    subst (λ (n : Node). IsDigestFor c.args.version c.args.range c.args.to.now n.shelf c.args.digest) (sym c.self.view_is) c.requires

-- the shelf has the same snapshots
pub invariant_of-self : goal.invariant_of-self
invariant_of-self c = record {
  cached = c.self.invariant.cached;
  recovers = c.self.invariant.recovers;
  rising = c.self.invariant.rising;
  shelved = subst (λ (l : List Snapshot). All (λ s. s.version ≤ c.self.inside.view.version) l) (sym c.keep_digest.ensures)
      c.self.invariant.shelved;
}
