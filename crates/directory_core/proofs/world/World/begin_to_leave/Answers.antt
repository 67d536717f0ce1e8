use Rattle.std.proofs.Common.{rules, sym, subst}
use Rattle.directory_rules.specs.Membership.{Leave, Membership}
use Rattle.directory_core.specs.Transitions.{IsWhole}
use Rattle.directory_core.specs.WorldModel.{world_of}
use Rattle.directory_core.proofs.Kept.{kept_made, left_so, refused_so}
use Rattle.directory_core.proofs.world.World.begin_to_leave.Goals as goal

pub invariant_of-self : goal.invariant_of-self
invariant_of-self c =
    subst (λ (m : Membership). IsWhole (record c.self.inside { membership = m })) (sym c.in_err-leave.ensures.unchanged) c.self.invariant

pub returns-in_err-leave-clause-made : goal.returns-in_err-leave-clause-made
returns-in_err-leave-clause-made c =
    let refused = refused_so (world_of c.self.inside) c.args.self.now c.self.view_is (Leave c.args.silo.now) _ (c.in_err-leave.ensures.refused c.self.inside.settings) in
    search rules

pub invariant_of-self-2 : goal.invariant_of-self-2
invariant_of-self-2 c = record {
  world = kept_made c.args.self.now _ (Leave c.args.silo.now) c.requires.leaves
      (left_so (world_of c.self.inside) c.args.self.now c.self.view_is c.args.silo.now c.leave.new.self
      (c.in_ok-leave.ensures.left c.self.inside.settings));
  shared = tt;
}

pub returns-clause-made : goal.returns-clause-made
returns-clause-made c =
    left_so (world_of c.self.inside) c.args.self.now c.self.view_is c.args.silo.now c.leave.new.self
    (c.in_ok-leave.ensures.left c.self.inside.settings)
