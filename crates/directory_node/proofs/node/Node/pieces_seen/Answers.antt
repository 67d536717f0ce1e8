use Rattle.std.proofs.Common.{ap, ◌∙◌}
use Rattle.directory_rules.specs.State.{Node}
use Rattle.grain_partition.specs.Seen.{pieces_seen}
use Rattle.directory_node.proofs.node.Node.pieces_seen.Goals as goal

pub returns-clause-exact : goal.returns-clause-exact
returns-clause-exact c =
    c.in_ok-pieces.ensures.exact
    ∙ (λ i. pieces_seen c.args.next (c.hashing-hashing.ensures i) c.args.view.now (c.silo-silo.ensures i) c.self.inside.holding.pieces
    c.args.arcs.now)
    ∙ ap (λ (n : Node). pieces_seen c.args.next n.settings.hashing c.args.view.now n.host.silo n.holding.pieces c.args.arcs.now)
    c.self.view_is
