use Rattle.grain_partition.proofs.ServedFrom.{pieces_after_turn}
use Rattle.grain_partition.proofs.holdings.Holding.serve_from.Goals as goal

pub invariant_of-self : goal.invariant_of-self
invariant_of-self c =
    pieces_after_turn c.args.request.now.act c.args.start c.self.inside.pieces.entries c.serve_numbered.new.pieces.entries c.self.invariant
    c.serve_numbered.result
    c.serve_numbered.ensures.turned c.serve_numbered.ensures.pieces_stay
