use Rattle.std.proofs.Common.{rules, sym, subst}
use Rattle.directory_rules.specs.Membership.{Die, Membership}
use Rattle.directory_core.specs.Transitions.{IsWhole}
use Rattle.directory_core.specs.WorldModel.{world_of}
use Rattle.directory_core.proofs.Kept.{died_so, kept_made, refused_so}
use Rattle.directory_core.proofs.world.World.die.Goals as goal

pub invariant_of-self : goal.invariant_of-self
invariant_of-self c =
    subst (λ (m : Membership). IsWhole (record c.self.inside { membership = m })) (sym c.in_err-declare_dead.ensures.unchanged)
    c.self.invariant

pub returns-in_err-declare_dead-clause-made : goal.returns-in_err-declare_dead-clause-made
returns-in_err-declare_dead-clause-made c =
    let refused = refused_so (world_of c.self.inside) c.args.self.now c.self.view_is (Die c.args.silo.now) _ (c.in_err-declare_dead.ensures.refused c.self.inside.settings) in
    search rules

pub invariant_of-self-2 : goal.invariant_of-self-2
invariant_of-self-2 c = record {
  world = kept_made c.args.self.now _ (Die c.args.silo.now) c.requires.leaves
      (died_so (world_of c.self.inside) c.args.self.now c.self.view_is c.args.silo.now c.declare_dead.new.self
      c.remove_node.new.nodes.entries
      (c.in_ok-declare_dead.ensures.dead c.self.inside.settings) c.remove_node.ensures);
  shared = tt;
}

pub returns-clause-made : goal.returns-clause-made
returns-clause-made c =
    died_so (world_of c.self.inside) c.args.self.now c.self.view_is c.args.silo.now c.declare_dead.new.self c.remove_node.new.nodes.entries
    (c.in_ok-declare_dead.ensures.dead c.self.inside.settings) c.remove_node.ensures
