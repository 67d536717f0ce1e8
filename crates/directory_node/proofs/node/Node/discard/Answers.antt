use Rattle.std.proofs.Common.{◌≤◌, sym, subst, List}
use Rattle.std.specs.Prelude.{All, not}
use Rattle.directory_rules.specs.State.{Snapshot}
use Rattle.directory_rules.specs.Snapshot.{is_snapshot}
use Rattle.node_plans.proofs.Kept.{all_kept}
use Rattle.directory_node.proofs.node.Node.discard.Goals as goal

pub invariant_of-self : goal.invariant_of-self
invariant_of-self c = record {
  cached = c.self.invariant.cached;
  recovers = c.self.invariant.recovers;
  rising = c.self.invariant.rising;
  shelved = subst (λ (l : List Snapshot). All (λ s. s.version ≤ c.self.inside.view.version) l) (sym c.done.ensures.deleted)
      (all_kept (λ (s : Snapshot). s.version ≤ c.self.inside.view.version)
      (λ s. not (is_snapshot c.args.version c.args.range c.args.to.now s)) c.self.inside.shelf c.self.invariant.shelved);
}
