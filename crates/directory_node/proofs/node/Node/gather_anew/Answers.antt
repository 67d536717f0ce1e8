use Rattle.std.proofs.Common.{◌≡◌, refl, sym, subst}
use Rattle.std.specs.Prelude.{All, true}
use Rattle.directory_rules.specs.State.{Gathering}
use Rattle.directory_rules.specs.Table.{rise_by_grain}
use Rattle.node_plans.proofs.Values.{all_put}
use Rattle.directory_node.proofs.node.Node.gather_anew.Goals as goal

-- nothing rises
pub invariant_of-self-2 : goal.invariant_of-self-2
invariant_of-self-2 c = record {
  cached = c.self.invariant.cached;
  recovers = c.self.invariant.recovers;
  rising = subst (λ l. All (λ e. rise_by_grain e.1.entries ≡ true) l) (sym c.in_ok-gather_anew_among.ensures.made)
      (all_put (λ (g : Gathering). rise_by_grain g.entries ≡ true) c.args.range.start _ c.self.inside.gatherings.entries refl
      c.self.invariant.rising);
  shelved = c.self.invariant.shelved;
}
