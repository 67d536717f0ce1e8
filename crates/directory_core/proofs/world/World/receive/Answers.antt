use Rattle.std.proofs.Common.{◌∙◌, ap}
use Rattle.directory_rules.specs.State.{World}
use Rattle.directory_rules.specs.Happens.{node_of}
use Rattle.directory_rules.specs.Mail.{letter_of}
use Rattle.directory_node.specs.Plans.{changed}
use Rattle.directory_core.specs.WorldModel.{world_of}
use Rattle.directory_core.proofs.Kept.{found_of, kept_receipt}
use Rattle.directory_core.proofs.world.World.receive.Goals as goal

pub invariant_of-self-2 : goal.invariant_of-self-2
invariant_of-self-2 c =
    let old = found_of (node_of c.args.self.now c.args.to.now) c.requires.there in
    let letter = found_of (letter_of c.args.self.now c.args.number) c.requires.letter in
    let is = ap (λ (w : World). letter_of w c.args.number) c.self.view_is ∙ letter.1 in
    record {
      world = kept_receipt (world_of c.self.inside) c.args.self.now c.self.view_is c.args.to.now (changed c.args.change old.0)
          c.receive_at.new.nodes.entries c.receive_at.new.mail c.args.letters.items c.args.number letter.0
          (c.requires.leaves letter.0 old.0 letter.1 old.1)
          (c.in_ok-receive_at.ensures.made old.0 (ap (λ (w : World). node_of w c.args.to.now) c.self.view_is ∙ old.1))
          (c.in_ok-receive_at.ensures.posted letter.0 is);
      shared = c.self.invariant.shared;
    }
