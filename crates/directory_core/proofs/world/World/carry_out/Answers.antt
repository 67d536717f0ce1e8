use Rattle.std.proofs.Common.{◌∙◌, ap}
use Rattle.directory_rules.specs.State.{World}
use Rattle.directory_rules.specs.Happens.{node_of}
use Rattle.directory_node.specs.Plans.{changed}
use Rattle.directory_core.specs.WorldModel.{world_of}
use Rattle.directory_core.proofs.Kept.{found_of, kept_step}
use Rattle.directory_core.proofs.world.World.carry_out.Goals as goal

pub invariant_of-self-2 : goal.invariant_of-self-2
invariant_of-self-2 c =
    let old = found_of (node_of c.args.self.now c.args.silo.now) c.requires.there in
    record {
      world = kept_step (world_of c.self.inside) c.args.self.now c.self.view_is c.args.silo.now (changed c.args.change old.0)
          c.carry_out_at.new.nodes.entries c.carry_out_at.new.mail c.args.letters.items (c.requires.leaves old.0 old.1)
          (c.in_ok-carry_out_at.ensures.made old.0 (ap (λ (w : World). node_of w c.args.silo.now) c.self.view_is ∙ old.1))
          c.in_ok-carry_out_at.ensures.posted;
      shared = c.self.invariant.shared;
    }
