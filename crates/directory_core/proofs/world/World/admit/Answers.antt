use Rattle.std.proofs.Common.{◌≡◌, Ok, sym, subst}
use Rattle.membership_view.specs.Changes.{after_join, with_join}
use Rattle.directory_rules.specs.Membership.{Join}
use Rattle.directory_rules.specs.State.{World}
use Rattle.directory_core.specs.WorldModel.{world_of}
use Rattle.directory_core.proofs.Kept.{joined_so, kept_made}
use Rattle.directory_core.proofs.Made.{peopled}
use Rattle.directory_core.proofs.world.World.admit.Goals as goal

pub put_in-requires : goal.put_in-requires
put_in-requires c = record {
  joins = subst (λ (w : World). after_join w.views c.args.silo ≡ Ok (with_join w.views c.args.silo)) (sym c.self.view_is) c.requires.joins;
  peopled = peopled (world_of c.self.inside) c.self.invariant.world;
}

pub invariant_of-self-2 : goal.invariant_of-self-2
invariant_of-self-2 c = record {
  world = kept_made c.args.self.now _ (Join c.args.silo c.args.given.now) c.requires.leaves
      (joined_so (world_of c.self.inside) c.args.self.now c.self.view_is c.args.silo c.args.given.now c.put_in.new.membership
      c.put_in.new.nodes.entries
      c.in_ok-replaced.ensures.made c.in_ok-replaced.ensures.nodes);
  shared = tt;
}

pub returns-clause-made : goal.returns-clause-made
returns-clause-made c =
    joined_so (world_of c.self.inside) c.args.self.now c.self.view_is c.args.silo c.args.given.now c.put_in.new.membership
    c.put_in.new.nodes.entries
    c.in_ok-replaced.ensures.made c.in_ok-replaced.ensures.nodes
